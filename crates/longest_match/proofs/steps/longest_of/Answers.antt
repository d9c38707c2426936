use Rattle.std.proofs.Common.{◌≡◌, ℕ, zero, suc, ◌-◌, ◌+◌, ◌*◌, ◌^◌, ◌<◌, ◌≤◌, List, ◌∷◌, sym, refl, arith, length, get_or, drop, length-drop, eq-eqb, ne_eqb}
use Rattle.std.proofs.Math.Nat.{pow-le-pow_right}
use Rattle.std.proofs.Math.Seq.{drop-cons}
use Rattle.automaton.specs.Layers.{rule_room}
use Rattle.longest_match.specs.Steps.{greatest}
use Rattle.longest_match.specs.Masks.{mask_of}
use Rattle.longest_match.proofs.Lengths.{greatest-end}
use Rattle.longest_match.proofs.Agreeing.{Passed, mask_below, mask_none}
use Rattle.longest_match.proofs.steps.longest_of.Goals as goal

-- the lengths from k on are passed, and the one before is next
module _ (ns : List ℕ) (k len mask : ℕ) (i : Passed ns k len mask) (p : 0 < k) (l : k ≤ length ns) where
  abbrev here : ℕ
  here = get_or ns (k - 1) 0

  taken : drop (k - 1) ns ≡ here ∷ drop k ns
  taken =
      let inside : k - 1 < length ns = omega arith in
      let next : suc (k - 1) ≡ k = omega arith in
      rw (drop-cons ns (k - 1) 0, next)

  below : mask < 2 ^ length (drop k ns)
  below = go len refl
    where
      go : (n : ℕ) → len ≡ n → mask < 2 ^ length (drop k ns)
      go zero e = omega (arith, i.none e, mask_below len (drop k ns))
      go (suc n) e = omega (arith, i.some (omega (arith, e)), mask_below len (drop k ns))

  -- a bit more has room
  fits : length ns ≤ rule_room → mask * 2 + 1 < 2 ^ 32
  fits r =
      let few : length (drop k ns) ≤ 31 = simp length-drop (omega arith) in
      let less : 2 ^ length (drop k ns) ≤ 2 ^ 31 = pow-le-pow_right (omega arith) few in
      omega (arith, less, below)

  longer : len < here → Passed ns (k - 1) here 1
  unfolding greatest mask_of
  longer m =
      record {
        longest = rw taken (omega (arith, i.longest));
        some = λ z. rw (taken, eq-eqb here here refl, mask_none here (drop k ns) (omega (arith, i.longest)));
        none = λ z. absurd (omega arith);
      }

  as_long : 0 < here → len ≡ here → Passed ns (k - 1) len (mask * 2 + 1)
  unfolding greatest mask_of
  as_long q e =
      record {
        longest = rw taken (omega (arith, i.longest));
        some = λ z. rw (taken, eq-eqb here len (sym e)) (omega (arith, i.some z));
        none = λ z. absurd (omega arith);
      }

  shorter : here ≤ len → (0 < len → len ≡ here → ⊥) → Passed ns (k - 1) len (mask * 2)
  unfolding greatest mask_of
  shorter m ne =
      record {
        longest = rw taken (omega (arith, i.longest));
        some = λ z. rw (taken, ne_eqb here len (λ e. ne z (sym e))) (omega (arith, i.some z));
        none = λ z. omega (arith, i.none z);
      }

pub loop-k-init : goal.loop-k-init
loop-k-init c =
    let ns = c.args.lengths.now in
    record { longest = sym (greatest-end ns (length ns) (omega arith)); some = λ z. absurd (omega arith); none = λ z. refl }

pub overflow_mul-mask : goal.overflow_mul-mask
overflow_mul-mask c =
    let k = c.loop-k in
    omega (arith, fits c.args.lengths.now k.k k.len k.mask k.invariant (omega arith) (omega arith) c.requires)

pub loop-k-preserved-then-len-n : goal.loop-k-preserved-then-len-n
loop-k-preserved-then-len-n c =
    let k = c.loop-k in longer c.args.lengths.now k.k k.len k.mask k.invariant (omega arith) (omega arith) c.if-len-n.true

pub overflow_add-mask : goal.overflow_add-mask
overflow_add-mask c =
    let k = c.loop-k in
    omega (arith, fits c.args.lengths.now k.k k.len k.mask k.invariant (omega arith) (omega arith) c.requires)

pub loop-k-preserved-then-len-n-2 : goal.loop-k-preserved-then-len-n-2
loop-k-preserved-then-len-n-2 c =
    let k = c.loop-k in as_long c.args.lengths.now k.k k.len k.mask k.invariant (omega arith) (omega arith) (omega arith) (omega arith)

pub loop-k-preserved-else-len-n-2 : goal.loop-k-preserved-else-len-n-2
loop-k-preserved-else-len-n-2 c =
    let k = c.loop-k in
    shorter c.args.lengths.now k.k k.len k.mask k.invariant (omega arith) (omega arith) (omega arith) (λ z e. omega arith)

pub loop-k-preserved : goal.loop-k-preserved
loop-k-preserved c =
    let k = c.loop-k in
    shorter c.args.lengths.now k.k k.len k.mask k.invariant (omega arith) (omega arith) (omega arith) (λ z e. omega arith)
