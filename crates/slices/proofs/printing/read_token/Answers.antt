-- `read_token`: what is chosen is as long as the token, or not.
use Rattle.std.proofs.Common.{◌≡◌, sym, ◌∙◌, ap, eq-eqb, ne_eqb}
use Rattle.longest_match.specs.Layers.{chosen_len}
use Rattle.longest_match.proofs.Parts.{part-front}
use Rattle.slices.specs.Layers.{refused_stage}
use Rattle.slices.proofs.printing.read_token.Goals as goal
use Rattle.slices.proofs.printing.read_token.Goals.{in-Some, in-None}

pub returns-then-most-len : goal.returns-then-most-len
returns-then-most-len c = λ rs h.
    let e : chosen_len c.choose.result ≡ c.match-choose.most =
    elim c.match-choose.branch [
      | in-Some w ↦ ap chosen_len w.in-Some.is ∙ sym w.most-is
      | in-None w ↦ ap chosen_len w.in-None.is ∙ sym w.most-is
    ] in
    record {
      rule = _;
      most = _;
      chooses = c.choose.ensures.chooses rs _ h (part-front _ _ _);
      result = rw (e, eq-eqb _ _ c.if-most-len.true) c.move_on.ensures;
    }

pub returns-else-most-len : goal.returns-else-most-len
returns-else-most-len c = λ rs h.
    let e : chosen_len c.choose.result ≡ c.match-choose.most =
    elim c.match-choose.branch [
      | in-Some w ↦ ap chosen_len w.in-Some.is ∙ sym w.most-is
      | in-None w ↦ ap chosen_len w.in-None.is ∙ sym w.most-is
    ] in
    record {
      rule = _;
      most = _;
      chooses = c.choose.ensures.chooses rs _ h (part-front _ _ _);
      result = rw (e, ne_eqb _ _ c.if-most-len.false) (c.refuse.ensures ∙ ap refused_stage c.at.ensures);
    }
