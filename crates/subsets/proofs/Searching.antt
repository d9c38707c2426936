-- The search for sets is a walk: step 256 * p + b goes from state p over byte b. Assumes nothing.
use mathlib.Core.Path.{◌≡◌, refl, sym, subst, ◌∙◌}
use mathlib.Core.Bool.{Bool, true, false}
use mathlib.Core.List.{List, []}
use Prim.Native.Nat.{ℕ, zero, suc, ◌+◌, ◌*◌, ◌/◌, ◌%◌, ◌≤◌, ◌<◌}
use native.Mathlib.Omega.{arith}
use lib.Bits.{bit_and}
use lib.Dec.{leb}
use lib.ListN.{length, get_or, length-map}
use borrow.Author.Tests.{leb-true, leb-false}
use Rattle.subsets.specs.States.{sets_ahead, ahead_of, discover, states_after, states}
use Rattle.subsets.proofs.Reaching.{begins_length, discover_begins, states_next, states-end, states-all, ahead_same}
use Rattle.subsets.proofs.Rows.{row_at_lem}
use Rattle.subsets.proofs.Walking.{walked_start, Walks, walks-row}

-- the set that a step meets
abbrev pub met : ℕ → List ℕ → List ℕ → ℕ → ℕ
met first follow takers e = bit_and (ahead_of first follow (states first follow takers) (e / 256)) (get_or takers (e % 256) 0)

-- k states are gone through, or all that there are
pub record Gone (first : ℕ) (follow takers : List ℕ) (k : ℕ) (known : List ℕ) : Type 0 where
  pub rows : ℕ
  pub within : rows ≤ length known + 1
  pub all : k ≤ length known → rows ≡ k
  pub ended : length known < k → rows ≡ length known + 1
  pub walks : Walks (met first follow takers) (256 * rows) known

module _ (first : ℕ) (follow takers : List ℕ) (size : length takers ≡ 256) where
  row-met : (k : ℕ) → k ≤ 255 → k ≤ length (states_after first follow takers k) → (b : ℕ) → b < 256
      → get_or (sets_ahead takers (ahead_of first follow (states_after first follow takers k) k)) b 0 ≡ met first follow takers (256 * k + b)
  row-met k few l b m =
      let p : (256 * k + b) / 256 ≡ k = omega arith in
      let c : (256 * k + b) % 256 ≡ b = omega arith in
      row_at_lem takers (ahead_of first follow (states_after first follow takers k) k) b
      ∙ rw (p, c, ahead_same first follow (states-all first follow takers k few) k l)

  gone_row : (k : ℕ) → suc k ≤ 255 → k ≤ length (states_after first follow takers k)
      → Gone first follow takers k (states_after first follow takers k)
      → Gone first follow takers (suc k)
      (discover (states_after first follow takers k) (sets_ahead takers (ahead_of first follow (states_after first follow takers k) k)))
  gone_row k few l g =
      let known : List ℕ = states_after first follow takers k in
      let row : List ℕ = sets_ahead takers (ahead_of first follow known k) in
      let n : length row ≡ 256 = length-map takers (bit_and (ahead_of first follow known k)) ∙ size in
      let grows : length known ≤ length (discover known row) = begins_length (discover_begins known row) in
      let r : g.rows ≡ k = g.all l in
      let w : Walks (met first follow takers) (256 * k) known =
      subst (λ (m : ℕ). Walks (met first follow takers) (256 * m) known) r g.walks in
      let e : 256 * k + length row ≡ 256 * suc k = omega arith in
      record {
        rows = suc k;
        within = omega arith;
        all = λ _. refl;
        ended = λ m. omega arith;
        walks = subst (λ (m : ℕ). Walks (met first follow takers) m (discover known row)) e
            (walks-row k row (256 * k) known w l (omega arith) (λ b m. row-met k (omega arith) l b (omega arith)));
      }

  pub gone : (k : ℕ) → k ≤ 255 → Gone first follow takers k (states_after first follow takers k)
  unfolding states_after
  gone zero few = record {
    rows = 0;
    within = omega arith;
    all = λ _. refl;
    ended = λ l. absurd (omega arith);
    walks = record { steps = []; walked = walked_start _ };
  }
  gone (suc k) few = go (leb k (length (states_after first follow takers k))) refl (gone k (omega arith))
    where
      go : (t : Bool) → leb k (length (states_after first follow takers k)) ≡ t
          → Gone first follow takers k (states_after first follow takers k)
          → Gone first follow takers (suc k) (states_after first follow takers (suc k))
      go true e g =
          let l : k ≤ length (states_after first follow takers k) = leb-true _ _ e in
          subst (Gone first follow takers (suc k)) (sym (states_next first follow takers k l)) (gone_row k few l g)
      go false e g =
          let l : length (states_after first follow takers k) < k = leb-false _ _ e in
          subst (Gone first follow takers (suc k)) (sym (states-end first follow takers k l)) (record {
            rows = g.rows;
            within = g.within;
            all = λ m. absurd (omega arith);
            ended = λ _. g.ended l;
            walks = g.walks;
          })
