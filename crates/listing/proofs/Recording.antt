-- The line of a record, by the numbers read from it. Assumes nothing.
use mathlib.Core.Path.{◌≡◌, sym, subst}
use mathlib.Core.List.{List}
use Prim.Native.Nat.{ℕ}
use Rattle.record.specs.declared.TokenRecord.{TokenRecord}
use Rattle.record.specs.Tokens.{record_at}
use Rattle.listing.specs.Layers.{Room, Puts}
use Rattle.listing.specs.Lines.{token_line, record_line}

module _ (records : List ℕ) (k : ℕ) {r : TokenRecord} (e : r ≡ record_at records k) where
  line_of : record_line records k ≡ token_line k r.tag r.place r.len
  unfolding record_line
  line_of = rw e

  pub room_record : {at : ℕ} {out : List ℕ} → Room at (record_line records k) out → Room at (token_line k r.tag r.place r.len) out
  room_record {at} {out} h = subst (λ (l : List ℕ). Room at l out) line_of h

  pub puts_record : {at next : ℕ} {out after : List ℕ} → Puts out at (token_line k r.tag r.place r.len) next after
      → Puts out at (record_line records k) next after
  puts_record {at} {next} {out} {after} p = subst (λ (l : List ℕ). Puts out at l next after) (sym line_of) p
