-- A rule more, in room for it.
use mathlib.Core.Path.{◌≡◌, ap, ◌∙◌}
use Prim.Native.Nat.{◌+◌, ◌<◌, ◌≤◌}
use lib.ListN.{length}
use native.Mathlib.Omega.{arith}
use Rattle.byte_set.specs.Layers.{mark, lowest_of}
use Rattle.used_bytes.proofs.Useful.{room_fresh}
use Rattle.shared_bytes.proofs.Fitting.{fitted_at, workspace_small}
use Rattle.shared_bytes.proofs.Gathering.{kinds_end, kinds_next, kinds_start, shared-lowest}
use Rattle.shared_bytes.proofs.shared_in.Goals as goal

pub loop-k-init : goal.loop-k-init
loop-k-init g c = record {
  room = λ bound edges o. o;
  plain = λ rs h. kinds_start rs _ _ c.empty-plain.ensures;
  separators = λ rs h. kinds_start rs _ _ c.empty-separators.ensures;
}

pub used_by-set-requires : goal.used_by-set-requires
used_by-set-requires g c =
    let f = c.requires.1 in (
      workspace_small g.row.STATES g.row.WORDS c.requires.2 c.requires.4,
      (
        g.row.STATES,
        c.requires.0,
        fitted_at f (omega (arith, c.count_of-rules.ensures f.rules f.holds)),
        c.loop-k.invariant.room _ _ (room_fresh g.row.STATES c.requires.0 g.row.WORDS c.requires.2 c.requires.3 c.requires.4),
      ),
    )

pub kind_of-kind-requires : goal.kind_of-kind-requires
kind_of-kind-requires g c =
    let f = c.requires.1 in
    record { rule = _; table = (fitted_at f (omega (arith, c.count_of-rules.ensures f.rules f.holds))).table }

pub loop-k-preserved : goal.loop-k-preserved
loop-k-preserved g c =
    let e : c.loop-k.k + 2 ≡ c.loop-k.k + 1 + 1 = omega arith in
    record {
      room = λ bound edges o. rw e at (c.used_by-set.ensures.by_index bound edges (c.loop-k.invariant.room bound edges o));
      plain = λ rs h.
          let l : c.loop-k.k < length rs = omega (arith, c.count_of-rules.ensures rs h) in
          let t = h.each c.loop-k.k l in
          kinds_next (c.loop-k.invariant.plain rs h) l _ (c.kind_of-kind.ensures _ t)
          (λ b p. c.joined_where-plain.ensures b p ∙ rw (c.used_by-set.ensures.b_value _ t b p));
      separators = λ rs h.
          let l : c.loop-k.k < length rs = omega (arith, c.count_of-rules.ensures rs h) in
          let t = h.each c.loop-k.k l in
          kinds_next (c.loop-k.invariant.separators rs h) l _ (c.kind_of-kind.ensures _ t)
          (λ b p. c.joined_where-separators.ensures b p ∙ rw (c.used_by-set.ensures.b_value _ t b p));
    }

pub returns : goal.returns
returns g c = λ rs h.
    let l : length rs ≤ c.loop-k.k = omega (arith, c.count_of-rules.ensures rs h) in
    c.lowest_common.ensures ∙ ap lowest_of
    (shared-lowest rs (mark c.loop-k.plain) (mark c.loop-k.separators) (kinds_end (c.loop-k.invariant.plain rs h) l)
    (kinds_end (c.loop-k.invariant.separators rs h) l))
