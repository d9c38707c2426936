-- A list, and the masks beside it, say the same in every form: their bytes, how many they are, the first of them and what lies past.
-- Assumes nothing.
use mathlib.Core.Path.{◌≡◌, refl, ap}
use mathlib.Core.List.{List}
use Prim.Native.Nat.{ℕ, ◌*◌, ◌<◌}
use lib.ListN.{take, drop}
use Rattle.big_endian.specs.Numbers.{four_at}
use Rattle.record.specs.Records.{record_count}
use Rattle.record.specs.Tokens.{records_of, tokens_in, tokens_of}
use Rattle.record.specs.Encoding.{Fits}
use Rattle.record.specs.Masks.{mask_count, FitsMask}
use Rattle.record.proofs.Encoding.{count_encoded, encoded_injective, records_encoded, take-encoded, drop-encoded, all_take, all_drop}
use Rattle.record.proofs.Masks.{count_mask_bytes, mask_bytes_injective, drop_mask_bytes, mask_in_lem}
use Rattle.demands.specs.Calls.{TypedMasks, mask_bytes_in, mask_count_in, mask_in, past_masks}
use Rattle.demands.specs.Calls.{Form, bytes, slice, Lent, Typed, records_in, count_in, first_in, past_in, structs_in, list_in}

pub count_in_lem : (f : Form) (l : Lent f) → record_count (records_in f l) ≡ count_in f l
count_in_lem bytes l = refl
count_in_lem slice l = count_encoded l

pub structs_in_lem : (f : Form) (l : Lent f) → Typed f l → records_of (records_in f l) ≡ structs_in f l
structs_in_lem bytes l h = refl
structs_in_lem slice l h = records_encoded l h

pub list_in_lem : (f : Form) (l : Lent f) → Typed f l → (pool : List ℕ) → tokens_of (records_in f l) pool ≡ list_in f l pool
list_in_lem f l h pool = ap (tokens_in pool) (structs_in_lem f l h)

pub first_in_lem : (f : Form) (n : ℕ) (l : Lent f) → take (10 * n) (records_in f l) ≡ records_in f (first_in f n l)
first_in_lem bytes n l = refl
first_in_lem slice n l = take-encoded l n

pub past_in_lem : (f : Form) (n : ℕ) (l : Lent f) → drop (10 * n) (records_in f l) ≡ records_in f (past_in f n l)
past_in_lem bytes n l = refl
past_in_lem slice n l = drop-encoded l n

pub typed_first : (f : Form) (n : ℕ) (l : Lent f) → Typed f l → Typed f (first_in f n l)
typed_first bytes n l h = tt
typed_first slice n l h = all_take l n h

pub typed_past : (f : Form) (n : ℕ) (l : Lent f) → Typed f l → Typed f (past_in f n l)
typed_past bytes n l h = tt
typed_past slice n l h = all_drop Fits l n h

-- lists that say the same records are one
pub same_in : (f : Form) (l m : Lent f) → Typed f l → Typed f m → records_in f l ≡ records_in f m → l ≡ m
same_in bytes l m h k e = e
same_in slice l m h k e = encoded_injective l m h k e

-- ---- masks

pub mask_count_in_lem : (f : Form) (m : List ℕ) → mask_count (mask_bytes_in f m) ≡ mask_count_in f m
mask_count_in_lem bytes m = refl
mask_count_in_lem slice m = count_mask_bytes m

pub mask_number_in : (f : Form) (m : List ℕ) (i : ℕ) → i < mask_count_in f m → TypedMasks f m
    → four_at (mask_bytes_in f m) (4 * i) ≡ mask_in f m i
mask_number_in bytes m i l h = refl
mask_number_in slice m i l h = mask_in_lem m i l h

pub past_masks_in : (f : Form) (n : ℕ) (m : List ℕ) → drop (4 * n) (mask_bytes_in f m) ≡ mask_bytes_in f (past_masks f n m)
past_masks_in bytes n m = refl
past_masks_in slice n m = drop_mask_bytes m n

pub typed_past_masks : (f : Form) (n : ℕ) (m : List ℕ) → TypedMasks f m → TypedMasks f (past_masks f n m)
typed_past_masks bytes n m h = tt
typed_past_masks slice n m h = all_drop FitsMask m n h

pub same_masks : (f : Form) (m k : List ℕ) → TypedMasks f m → TypedMasks f k → mask_bytes_in f m ≡ mask_bytes_in f k → m ≡ k
same_masks bytes m k g h e = e
same_masks slice m k g h e = mask_bytes_injective m k g h e
