-- The loop of `load`: the rest of the book decides as the whole does. Assumes nothing.
use Rattle.answer.specs.declared.Reason.{Reason}
use Rattle.answer.specs.declared.Refusal.{Refusal}
use Rattle.std.specs.Prelude.{Result, Ok, Err, MatchResult, IsErrAnd}
use Rattle.answer.specs.declared.Reason.TheVariants.{BookTooLong, CutOff}
use mathlib.Core.Path.{◌≡◌, refl, sym, ◌∙◌, ap, subst}
use mathlib.Core.Bool.{Bool, true, false}
use mathlib.Core.List.{List, []}
use Prim.Native.Nat.{ℕ, zero, suc, ◌+◌, ◌<◌, ◌≤◌}
use native.Mathlib.Omega.{arith}
use lib.Dec.{leb}
use lib.ListN.{replicate, length-replicate, get_or-replicate, length, get_or, get_or-eq_default}
use borrow.Author.Tests.{lt-ltb, le-ltb, leb-true, leb-false}
use Rattle.automaton.specs.Rule.{Rule, overlaps, state_count}
use Rattle.automaton.specs.Layers.{edge_start, Holds}
use Rattle.command.specs.declared.Decoded.{Decoded}
use Rattle.command.specs.Commands.{byte_at, command_at}
use Rattle.book.specs.declared.Book.{Book}
use Rattle.book.specs.declared.Progress.{Progress}
use Rattle.book.specs.declared.Progress.TheVariants.{On, Done, Narrow}
use Rattle.book.specs.Limits.{max_bytes}
use Rattle.book.specs.Draft.{Draft, between, Verdict, goes, accepts, refuses, apply}
use Rattle.book.specs.Layers.{idle, edge_limit, Makes, Takes, adds, Fresh}
use Rattle.book.proofs.Fine.{fine_start}
use Rattle.book.proofs.Filling.{stored_fresh, stored_cells}
use Rattle.book.proofs.Steps.{inside_is}
use Rattle.reader.specs.Reading.{accepted, refused, go_on, take_in, read_from, read_by, answer}
use Rattle.reader.specs.Layers.{Lent, LoadedBy, Going, Copied}
use Rattle.reader.proofs.Accepted.{Commanded, Found, command_found}
use Rattle.reader.proofs.Walking.{not_accepted}

-- ---- answers

pub loaded_refused : {strict : Bool} {bytes tb : List ℕ} {f : Refusal} {reason : Reason} {place : ℕ} → read_by strict bytes ≡ refused reason place
    → f ≡ record { reason = reason; place = place } → LoadedBy strict bytes (Err f) tb
loaded_refused e q =
    record {
      answered = ap Err q ∙ ap answer (sym e);
      holds = λ rules z. not_accepted (sym e ∙ z);
    }

loaded_accepted : {strict : Bool} {bytes tb : List ℕ} {k : ℕ} {rules : List Rule} → read_by strict bytes ≡ accepted rules
    → k ≡ length rules → Holds tb rules → LoadedBy strict bytes (Ok k) tb
loaded_accepted {tb = tb} {rules = rules} e q t =
    record {
      answered = ap Ok q ∙ ap answer (sym e);
      holds = λ others z. let y : rules ≡ others = cc in subst (Holds tb) y t;
    }

pub read_too_long : (strict : Bool) (bytes : List ℕ) → max_bytes < length bytes → read_by strict bytes ≡ refused BookTooLong 0
unfolding read_by
read_too_long strict bytes l = rw (lt-ltb _ _ l)

-- ---- the loop

pub going_start : {strict : Bool} {bytes tb rows : List ℕ} {b : Book} {at : ℕ} → Lent (length bytes) tb → Fresh tb rows
    → length bytes ≤ max_bytes → b ≡ idle 0 edge_start → at ≡ 0 → Going strict bytes tb rows at b
unfolding read_by overlaps
going_start {bytes} lent f l e z =
    rw (e, z)
    (record {
      draft = between [];
      steps = length bytes;
      holds = record { fine = fine_start; stored = stored_fresh f; same = refl };
      enough = omega arith;
      same = rw (le-ltb _ _ l);
      few = omega arith;
      short = l;
      room = lent.room l;
    })

-- the book stops before END
read_stops : (strict : Bool) (n : ℕ) (bytes : List ℕ) (at : ℕ) (d : Draft) → length bytes ≤ at
    → read_from strict n bytes at d ≡ refused CutOff (length bytes)
unfolding read_from
read_stops strict zero bytes at d l = refl
read_stops strict (suc n) bytes at d l = rw (le-ltb _ _ l)

pub going_stops : {strict : Bool} {bytes tb rows : List ℕ} {at : ℕ} {b : Book} → Going strict bytes tb rows at b → length bytes ≤ at
    → read_by strict bytes ≡ refused CutOff (length bytes)
going_stops {strict} {bytes} g l = g.same ∙ read_stops strict g.steps bytes _ g.draft l

-- one step more is taken, as `take_in` says of what stands there
pub record Taking (strict : Bool) (bytes : List ℕ) (at : ℕ) (d : Draft) (c : Result Decoded Reason) : Type 0 where
  pub steps : ℕ
  pub enough : length bytes ≤ at + 1 + steps
  pub same : read_by strict bytes ≡ take_in c d at (length bytes) (read_from strict steps bytes)

read_takes : (strict : Bool) (n : ℕ) (bytes : List ℕ) (at : ℕ) (d : Draft) (c : Result Decoded Reason) → length bytes ≤ at + n → at < length bytes
    → command_at strict bytes at d.inside ≡ c → read_by strict bytes ≡ read_from strict n bytes at d → Taking strict bytes at d c
unfolding read_from
read_takes strict zero bytes at d c e l q s = absurd (omega arith)
read_takes strict (suc n) bytes at d c e l q s = record { steps = n; enough = omega arith; same = s ∙ rw (lt-ltb _ _ l, q) }

pub going-takes : {strict : Bool} {bytes tb rows : List ℕ} {at : ℕ} {b : Book} (g : Going strict bytes tb rows at b) → at < length bytes
    → (c : Result Decoded Reason) → c ≡ command_at strict bytes at b.inside → Taking strict bytes at g.draft c
going-takes {strict} {bytes} {at = at} g more c e =
    read_takes strict g.steps bytes at g.draft c g.enough more
    (ap (command_at strict bytes at) (sym (inside_is g.holds)) ∙ sym e) g.same

-- ---- a command

-- this command stands at `at`
pub record Here (strict : Bool) (bytes tb rows : List ℕ) (at : ℕ) (b : Book) (read : Decoded) : Type 0 where
  pub going : Going strict bytes tb rows at b
  pub more : at < length bytes
  pub byte : (i : ℕ) → byte_at bytes i < 256
  pub found : Ok read ≡ command_at strict bytes at b.inside

pub here : {strict : Bool} {bytes tb rows : List ℕ} {at : ℕ} {b : Book} {read : Decoded} → Going strict bytes tb rows at b → at < length bytes
    → ((i : ℕ) → byte_at bytes i < 256) → Ok read ≡ command_at strict bytes at b.inside → Here strict bytes tb rows at b read
here g l byte e = record { going = g; more = l; byte = byte; found = e }

-- what its outcome says of the book: reading goes on behind it, the book is answered, or it still stands there and cells are too few
abbrev pub Leaves : Bool → List ℕ → List ℕ → List ℕ → ℕ → Book → ℕ → Result Progress Refusal → Type 0
Leaves strict bytes tb rows at b next (Ok (On b₁)) = Going strict bytes tb rows next b₁
Leaves strict bytes tb rows at b next (Ok (Done k)) = LoadedBy strict bytes (Ok k) tb
Leaves strict bytes tb rows at b next (Err f) = LoadedBy strict bytes (Err f) tb
Leaves strict bytes tb rows at b next (Ok Narrow) = Going strict bytes tb rows at b × (length rows < state_count)

module _ {strict : Bool} {bytes tb rows : List ℕ} {at : ℕ} {b : Book} {read : Decoded}
    (k : Here strict bytes tb rows at b read) where
  pub commanded : Commanded bytes at b.inside read.command read.next.at
  commanded = subst (Found bytes at b.inside) (sym k.found) (command_found bytes at b.inside k.byte strict)

  pub edges_left : b.edges < edge_limit
  edges_left = let h = k.going.few in let l = k.going.short in let m = k.more in omega arith

  pub room-left : b.edges < length tb
  room-left = let h = k.going.few in let l = k.going.room in let m = k.more in omega arith

  taking : Taking strict bytes at k.going.draft (Ok read)
  taking = going-takes k.going k.more (Ok read) k.found

  pub taken_in : {r s : Result Progress Refusal} (tb₁ rows₁ : List ℕ) → length tb₁ ≡ length tb → Takes b read.command at (length bytes) r tb rows tb₁ rows₁ → r ≡ s
      → Leaves strict bytes tb₁ rows₁ at b read.next.at s
  taken_in {s = s} tb₁ rows₁ kept taken e =
      go (apply k.going.draft read.command at (length bytes)) s taking.same
      (rw e at (taken k.going.draft k.going.holds (sym (inside_is k.going.holds) ∙ sym commanded.stands)))
    where
      still : (tb₁ ≡ tb) × (rows₁ ≡ rows) × (length rows < state_count) → Leaves strict bytes tb₁ rows₁ at b read.next.at (Ok Narrow)
      still (t, u, l) = rw (t, u) (k.going, l)

      go : (v : Verdict) (p : Result Progress Refusal) → read_by strict bytes ≡ go_on v (read_from strict taking.steps bytes read.next.at)
          → Makes v p tb rows tb₁ rows₁ (b.edges + adds read.command) → Leaves strict bytes tb₁ rows₁ at b read.next.at p
      go (goes d) (Ok (On b₁)) q (h, n) =
          let f = commanded.further in
          let w = commanded.wide in
          let t = taking.enough in
          let l = k.going.few in
          record {
            draft = d;
            steps = taking.steps;
            holds = h;
            enough = omega arith;
            same = q;
            few = omega arith;
            short = k.going.short;
            room = rw kept k.going.room;
          }
      go (goes d) (Ok (Done n)) q h = absurd h
      go (goes d) (Err f) q h = absurd h
      go (goes d) (Ok Narrow) q h = still h
      go (accepts rules) (Ok (On b₁)) q h = absurd h
      go (accepts rules) (Ok (Done n)) q (h, t) = loaded_accepted q h t
      go (accepts rules) (Err f) q h = absurd h
      go (accepts rules) (Ok Narrow) q h = still h
      go (refuses why place) (Ok (On b₁)) q h = absurd h
      go (refuses why place) (Ok (Done n)) q h = absurd h
      go (refuses why place) (Err f) q h = loaded_refused q h
      go (refuses why place) (Ok Narrow) q h = still h

-- ---- cells of zeros

zeros_zero : (m s : ℕ) → ◌≡◌ {A = ℕ} (get_or (replicate m 0) s 0) 0
zeros_zero m s = go (leb (suc s) m) refl
  where
    go : (t : Bool) → leb (suc s) m ≡ t → ◌≡◌ {A = ℕ} (get_or (replicate m 0) s 0) 0
    go true e = get_or-replicate {A = ℕ} m s 0 0 (leb-true _ _ e)
    go false e = get_or-eq_default (replicate m 0) 0 (omega (arith, leb-false (suc s) m e, length-replicate {A = ℕ} m 0))

pub rows_fresh : (m : ℕ) {n : ℕ} {tb : List ℕ} → Lent n tb → Fresh tb (replicate m 0)
rows_fresh m h = record { head = h.head; empty = h.empty; zeros = λ s l. zeros_zero m s }

-- ---- more cells

-- the cells that were there are copied into a row of more, all zero before: all states have the cells that they had
pub going_wide : (m : ℕ) {strict : Bool} {bytes tb rows rows₁ : List ℕ} {at : ℕ} {b : Book} → Going strict bytes tb rows at b
    → Copied rows (replicate m 0) rows₁ (length rows) → Going strict bytes tb rows₁ at b
going_wide m {rows = rows} {rows₁ = rows₁} g c =
    record {
      draft = g.draft;
      steps = g.steps;
      holds = record {
        fine = g.holds.fine;
        stored = stored_cells (λ s l. same s (leb (suc s) (length rows)) refl) g.holds.stored;
        same = g.holds.same;
      };
      enough = g.enough;
      same = g.same;
      few = g.few;
      short = g.short;
      room = g.room;
    }
  where
    same : (s : ℕ) (t : Bool) → leb (suc s) (length rows) ≡ t → get_or rows₁ s 0 ≡ get_or rows s 0
    same s true e = c.copied s (leb-true _ _ e)
    same s false e =
        let l : length rows ≤ s = omega (arith, leb-false (suc s) (length rows) e) in
        c.kept s l ∙ zeros_zero m s ∙ sym (get_or-eq_default rows 0 l)

-- ---- why no command stands there, made a refusal at a place

module _ (P : Reason → Refusal → Type 0) where
  pub mapped_ok : (r : Result Decoded Reason) {s : Result Decoded Refusal} {read : Decoded}
      → MatchResult r (λ x. s ≡ Ok x) (λ e. IsErrAnd s (P e)) → s ≡ Ok read → Ok read ≡ r
  mapped_ok (Ok x) h e = cc
  mapped_ok (Err why) h e = absurd (rw e at h)

  pub no_command : (r : Result Decoded Reason) {s : Result Decoded Refusal} {f : Refusal} {strict : Bool} {bytes tb rows : List ℕ} {at : ℕ} {b : Book}
      → Going strict bytes tb rows at b → at < length bytes → r ≡ command_at strict bytes at b.inside
      → ((why : Reason) (f : Refusal) → P why f → f ≡ record { reason = why; place = at })
      → MatchResult r (λ x. s ≡ Ok x) (λ e. IsErrAnd s (P e)) → s ≡ Err f → LoadedBy strict bytes (Err f) tb
  no_command (Ok x) g l found same h e = cc
  no_command (Err why) {f = f} g l found same h e = loaded_refused (going-takes g l (Err why) found).same (same why f (rw e at h))
