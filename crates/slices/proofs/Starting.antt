-- What is pending first, by a book: refused, or as its rules open it.
use Rattle.std.specs.Prelude.{Result, Ok, Err}
use mathlib.Core.Path.{◌≡◌, refl, sym, subst}
use mathlib.Core.List.{List}
use Prim.Native.Nat.{ℕ}
use Rattle.answer.specs.declared.Refusal.{Refusal}
use Rattle.automaton.specs.Rule.{Rule}
use Rattle.automaton.specs.Layers.{Holds}
use Rattle.reader.specs.Layers.{Loaded}
use Rattle.reader.proofs.Loaded.{loaded_rules}
use Rattle.lexer.proofs.Outcomes.{answered_book, answered_refused}
use Rattle.slices.specs.declared.lexing.Pending.{Pending}
use Rattle.slices.specs.Layers.{refused_pending, Opens, Begun}

module _ {bytes text tb : List ℕ} {room : ℕ} {b : Result ℕ Refusal} {r : Pending} (l : Loaded bytes b tb) where
  pub begun_book : {n least : ℕ} → b ≡ Ok n → room ≡ least → ((rules : List Rule) → Holds tb rules → Opens rules text room r)
      → Begun bytes text least tb r
  begun_book a e f =
      let w = loaded_rules l a in
      let o = f w.0 w.1.1 in
      subst (λ (m : ℕ). Begun bytes text m tb r) e (record {
        idle = o.idle;
        refuses = λ g p records masks q. answered_book l a text records masks records masks (Err g)
            (λ rules h. (f rules h).refuses g p records masks q);
        starts = λ p. (w.0, (w.1.0, (w.1.1, o.starts p)));
      })

  pub begun_refused : {f : Refusal} → b ≡ Err f → r ≡ refused_pending f → Begun bytes text room tb r
  begun_refused {f} a e =
      subst (Begun bytes text room tb) (sym e)
      (record {
        idle = λ g p. refl;
        refuses = λ g p records masks q. let s : f ≡ g = cc in rw (← s) (answered_refused l a text records masks);
        starts = λ p. cc;
      })
