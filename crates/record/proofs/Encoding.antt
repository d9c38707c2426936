-- The ten-byte records that a slice of tokens says: how many bytes, one token stored, and that nothing is lost. Assumes nothing.
use mathlib.Core.Path.{◌≡◌, refl, sym, ◌∙◌, ap}
use mathlib.Core.List.{List, [], ◌∷◌, ◌++◌}
use Prim.Native.Nat.{ℕ, zero, suc, ◌+◌, ◌*◌, ◌/◌, ◌%◌, ◌<◌}
use native.Mathlib.Omega.{arith}
use lib.ListN.{length, get_or, set, take, drop}
use lib.Seq.{drop_at}
use Rattle.automaton.specs.Choice.{All}
use Rattle.record.specs.Records.{record_of, record_count}
use Rattle.big_endian.proofs.Numbers.{two_value, four_value}
use Rattle.record.specs.Tokens.{record_at, records_from, records_of, tokens_in, tokens_of}
use Rattle.record.specs.declared.TokenRecord.{TokenRecord}
use Rattle.record.specs.Encoding.{encoded, Fits}
use Rattle.record.specs.Layers.{no_record}

ten_more : (n : ℕ) → 10 * suc n ≡ suc (suc (suc (suc (suc (suc (suc (suc (suc (suc (10 * n))))))))))
ten_more n = omega arith

pub length-encoded : (ts : List TokenRecord) → length (encoded ts) ≡ 10 * length ts
unfolding encoded
length-encoded [] = refl
length-encoded (t ∷ ts) = omega (arith, length-encoded ts)

-- a slice counts as its length
pub count_encoded : (ts : List TokenRecord) → record_count (encoded ts) ≡ length ts
count_encoded ts = omega (arith, length-encoded ts)

abbrev pub ten_bytes : TokenRecord → List ℕ
ten_bytes t = record_of t.tag t.place t.len

-- to store a token is to put its record in the place of another
pub encoded-set : (ts : List TokenRecord) (i : ℕ) (t : TokenRecord) → i < length ts
    → encoded (set ts i t) ≡ take (10 * i) (encoded ts) ++ ten_bytes t ++ drop (10 * i + 10) (encoded ts)
unfolding encoded
encoded-set [] i t l = absurd (omega arith)
encoded-set (x ∷ xs) zero t l = refl
encoded-set (x ∷ xs) (suc i) t l =
    let p : 10 * suc i + 10 ≡ suc (suc (suc (suc (suc (suc (suc (suc (suc (suc (10 * i + 10)))))))))) = omega arith in
    rw (p, ten_more i, encoded-set xs i t (omega arith))

-- a record's tag is two bytes
pub two_bytes : (tag place len : ℕ) → record_of (tag % 65536) place len ≡ record_of tag place len
two_bytes tag place len =
    let a : tag % 65536 / 256 % 256 ≡ tag / 256 % 256 = omega arith in
    let b : tag % 65536 % 256 ≡ tag % 256 = omega arith in
    rw (a, b)

-- ---- nothing is lost

same_record : (t u : TokenRecord) (xs ys : List ℕ) → Fits t → Fits u → ten_bytes t ++ xs ≡ ten_bytes u ++ ys → (t ≡ u) × (xs ≡ ys)
same_record t u xs ys f g e =
    let a : t.tag ≡ u.tag = cc (e, two_value t.tag f.tag, two_value u.tag g.tag) in
    let b : t.place ≡ u.place = cc (e, four_value t.place f.place, four_value u.place g.place) in
    let c : t.len ≡ u.len = cc (e, four_value t.len f.len, four_value u.len g.len) in
    (λ i. record { tag = a i; place = b i; len = c i }, cc)

pub encoded_injective : (ts us : List TokenRecord) → All Fits ts → All Fits us → encoded ts ≡ encoded us → ts ≡ us
unfolding encoded
encoded_injective [] [] f g e = refl
encoded_injective [] (u ∷ us) f g e = absurd (omega (arith, ap length e))
encoded_injective (t ∷ ts) [] f g e = absurd (omega (arith, ap length e))
encoded_injective (t ∷ ts) (u ∷ us) (f, fs) (g, gs) e =
    let s = same_record t u (encoded ts) (encoded us) f g e in
    rw (s.0, encoded_injective ts us fs gs s.1)

-- ---- the records are those that the tokens say

front : (t : TokenRecord) (bytes : List ℕ) → Fits t → record_at (ten_bytes t ++ bytes) 0 ≡ t
unfolding record_at
front t bytes f = rw (two_value t.tag f.tag, four_value t.place f.place, four_value t.len f.len)

behind : (t : TokenRecord) (bytes : List ℕ) (k : ℕ) → record_at (ten_bytes t ++ bytes) (suc k) ≡ record_at bytes k
unfolding record_at
behind t bytes k =
    rw (
      later (10 * suc k + 6 + 3) (10 * k + 6 + 3) (omega arith),
      later (10 * suc k + 6 + 2) (10 * k + 6 + 2) (omega arith),
      later (10 * suc k + 6 + 1) (10 * k + 6 + 1) (omega arith),
      later (10 * suc k + 6) (10 * k + 6) (omega arith),
      later (10 * suc k + 2 + 3) (10 * k + 2 + 3) (omega arith),
      later (10 * suc k + 2 + 2) (10 * k + 2 + 2) (omega arith),
      later (10 * suc k + 2 + 1) (10 * k + 2 + 1) (omega arith),
      later (10 * suc k + 2) (10 * k + 2) (omega arith),
      later (10 * suc k + 1) (10 * k + 1) (omega arith),
      later (10 * suc k) (10 * k) (omega arith),
    )
  where
    later : (i j : ℕ) → i ≡ suc (suc (suc (suc (suc (suc (suc (suc (suc (suc j))))))))) → get_or (ten_bytes t ++ bytes) i 0 ≡ get_or bytes j 0
    later i j e = rw e

-- record number k is that of token number k
pub record_encoded : (ts : List TokenRecord) (k : ℕ) → k < length ts → Fits (get_or ts k no_record) → record_at (encoded ts) k
    ≡ get_or ts k no_record
unfolding encoded
record_encoded [] k l f = absurd (omega arith)
record_encoded (t ∷ ts) zero l f = front t (encoded ts) f
record_encoded (t ∷ ts) (suc k) l f = behind t (encoded ts) k ∙ record_encoded ts k (omega arith) f

records_behind : (t : TokenRecord) (bytes : List ℕ) (k n : ℕ) → records_from (ten_bytes t ++ bytes) (suc k) n ≡ records_from bytes k n
unfolding records_from
records_behind t bytes k zero = refl
records_behind t bytes k (suc n) = rw (behind t bytes k, records_behind t bytes (suc k) n)

records_from_lem : (ts : List TokenRecord) → All Fits ts → records_from (encoded ts) 0 (length ts) ≡ ts
unfolding encoded records_from
records_from_lem [] f = refl
records_from_lem (t ∷ ts) (f, fs) = rw (front t (encoded ts) f, records_behind t (encoded ts) 0 (length ts), records_from_lem ts fs)

-- the records that the encoding says are the structs of the slice
pub records_encoded : (ts : List TokenRecord) → All Fits ts → records_of (encoded ts) ≡ ts
unfolding records_of
records_encoded ts f = rw (count_encoded ts) (records_from_lem ts f)

-- so it says the same token list with a pool
pub tokens-encoded : (ts : List TokenRecord) (pool : List ℕ) → All Fits ts → tokens_of (encoded ts) pool ≡ tokens_in pool ts
tokens-encoded ts pool f = ap (tokens_in pool) (records_encoded ts f)

-- ---- the first n tokens, and what lies behind them

pub take-encoded : (ts : List TokenRecord) (n : ℕ) → take (10 * n) (encoded ts) ≡ encoded (take n ts)
unfolding encoded
take-encoded ts zero = refl
take-encoded [] (suc n) = rw (ten_more n)
take-encoded (t ∷ ts) (suc n) = rw (ten_more n, take-encoded ts n)

pub drop-encoded : (ts : List TokenRecord) (n : ℕ) → drop (10 * n) (encoded ts) ≡ encoded (drop n ts)
unfolding encoded
drop-encoded ts zero = refl
drop-encoded [] (suc n) = rw (ten_more n)
drop-encoded (t ∷ ts) (suc n) = rw (ten_more n, drop-encoded ts n)

pub all_take : (ts : List TokenRecord) (n : ℕ) → All Fits ts → All Fits (take n ts)
all_take ts zero f = tt
all_take [] (suc n) f = tt
all_take (t ∷ ts) (suc n) (f, fs) = (f, all_take ts n fs)

pub all_drop : {A : Type 0} (P : A → Type 0) (xs : List A) (n : ℕ) → All P xs → All P (drop n xs)
all_drop P xs zero f = f
all_drop P [] (suc n) f = tt
all_drop P (x ∷ xs) (suc n) (f, fs) = all_drop P xs n fs

-- records that keep their bytes behind the first n are those of tokens that keep what lies behind the first n
pub kept_behind : (ts us : List TokenRecord) (n : ℕ) (front : List ℕ) → All Fits ts → All Fits us → length front ≡ 10 * n
    → encoded us ≡ front ++ drop (10 * n) (encoded ts) → drop n us ≡ drop n ts
kept_behind ts us n front f g l e =
    encoded_injective (drop n us) (drop n ts) (all_drop Fits us n g) (all_drop Fits ts n f)
    (sym (drop-encoded us n) ∙ ap (drop (10 * n)) e ∙ drop_at front (drop (10 * n) (encoded ts)) (10 * n) l ∙ drop-encoded ts n)
