-- What is noted of an expression made of others, and its part. Assumes nothing.
use mathlib.Core.Path.{◌≡◌, refl, sym, ap, ◌∙◌}
use mathlib.Core.Bool.{Bool, true, false, ◌&&◌, ◌||◌}
use mathlib.Core.List.{List, ◌∷◌}
use Prim.Native.Nat.{ℕ, ◌+◌, ◌-◌, ◌≤◌, ◌<◌}
use native.Mathlib.Omega.{arith}
use borrow.Author.Tests.{lt-ltb, le-ltb, le-leb, lt-leb}
use lib.Bits.{bit_or, or_comm}
use lib.Dec.{leb, ltb}
use lib.ListN.{length, get_or}
use Rattle.automaton.specs.Choice.{if}
use Rattle.automaton.proofs.Tests.{or_none}
use Rattle.expression.specs.Expression.{Expression, group, union, concat, star, plus, optional}
use Rattle.positions.specs.Positions.{size, depth, nullable, of_part, takes_at, first, last, follows}
use Rattle.positions.specs.Numbers.{set_of}
use Rattle.positions.proofs.Numbers.{set_same, member-set}
use Rattle.positions.proofs.Bounds.{takes_below, first_below, last_below, follows_below}
use Rattle.position_reader.specs.declared.Part.{Part}
use Rattle.position_reader.specs.Layers.{from, Taken, Followed, place_of, part_of}
use Rattle.expression_reader.specs.Layers.{Linked, widened, joined_part, united_part, made_part}
use Rattle.expression_reader.proofs.Sets.{by_place, from_at, first-set, second_set, both_set, or_set, or_assoc}

-- ---- what takes a byte

module _ {base : ℕ} {e : Expression} {t t' : List ℕ} where
  module _ {f : Expression} {t'' : List ℕ} (h : Taken base e t t') (k : Taken (base + size e) f t' t'') where
    both_taken : (b : ℕ) → b < 256
        → get_or t'' b 0 ≡ bit_or (get_or t b 0) (set_of (from base (of_part (size e) (takes_at e b) (takes_at f b))))
    both_taken b l =
        k.taken b l ∙ ap (λ (x : ℕ). bit_or x (set_of (from (base + size e) (takes_at f b)))) (h.taken b l)
        ∙ or_assoc (get_or t b 0) (set_of (from base (takes_at e b))) (set_of (from (base + size e) (takes_at f b)))
        ∙ ap (λ (x : ℕ). bit_or (get_or t b 0) x) (both_set base (size e) (takes_at e b) (takes_below b e) (takes_at f b))

    pub taken_union : Taken base (union e f) t t''
    unfolding takes_at
    taken_union = record { taken = both_taken }

    pub taken_concat : Taken base (concat e f) t t''
    unfolding takes_at
    taken_concat = record { taken = both_taken }

  module _ (h : Taken base e t t') where
    pub taken_group : Taken base (group e) t t'
    unfolding takes_at
    taken_group = record { taken = h.taken }

    pub taken_star : Taken base (star e) t t'
    unfolding takes_at
    taken_star = record { taken = h.taken }

    pub taken_plus : Taken base (plus e) t t'
    unfolding takes_at
    taken_plus = record { taken = h.taken }

    pub taken_optional : Taken base (optional e) t t'
    unfolding takes_at
    taken_optional = record { taken = h.taken }

-- ---- what follows a position

module _ (base : ℕ) (e : Expression) (f f' : List ℕ) (p : ℕ) (below : p < 64) where
  module _ (h : Followed base e f f') where
    before_kept : p < base → get_or f' p 0 ≡ get_or f p 0
    before_kept l = h.followed p below ∙ rw (lt-leb base p l)

    behind_kept : base + size e ≤ p → get_or f' p 0 ≡ get_or f p 0
    behind_kept l = h.followed p below ∙ rw (le-leb base p (omega arith), le-ltb p (base + size e) l)

    inside_follows : base ≤ p → p < base + size e → get_or f' p 0 ≡ set_of (from base (follows e (p - base)))
    inside_follows l k = h.followed p below ∙ rw (le-leb base p l, lt-ltb p (base + size e) k)

  module _ (more : ℕ) (h : Linked base (base + size e) (set_of (from base (last e))) more f f') where
    before_unlinked : p < base → get_or f' p 0 ≡ get_or f p 0
    before_unlinked l = h.linked p below ∙ rw (lt-leb base p l)

    behind_unlinked : base + size e ≤ p → get_or f' p 0 ≡ get_or f p 0
    behind_unlinked l = h.linked p below ∙ rw (le-leb base p (omega arith), le-ltb p (base + size e) l)

    inside_linked : base ≤ p → p < base + size e → get_or f' p 0 ≡ if (last e (p - base)) (bit_or (get_or f p 0) more) (get_or f p 0)
    inside_linked l k =
        h.linked p below ∙ rw (le-leb base p l, lt-ltb p (base + size e) k)
        (ap (λ (t : Bool). if t (bit_or (get_or f p 0) more) (get_or f p 0))
        (member-set 64 (from base (last e)) p below ∙ from_at base (last e) p l))

-- from what follows the positions before, in and behind an expression
by_parts : (base : ℕ) (e : Expression) (f f' : List ℕ)
    → ((p : ℕ) → p < 64 → p < base → get_or f' p 0 ≡ get_or f p 0)
    → ((p : ℕ) → p < 64 → base ≤ p → p < base + size e → get_or f' p 0 ≡ set_of (from base (follows e (p - base))))
    → ((p : ℕ) → p < 64 → base + size e ≤ p → get_or f' p 0 ≡ get_or f p 0)
    → Followed base e f f'
by_parts base e f f' before inside behind = record {
  followed = λ p h. by_place base (size e) p
      (λ l. rw (lt-leb base p l) (before p h l))
      (λ l k. rw (le-leb base p l, lt-ltb p (base + size e) k) (inside p h l k))
      (λ l. rw (le-leb base p (omega arith), le-ltb p (base + size e) l) (behind p h l));
}

module _ {base : ℕ} {e : Expression} {f f' : List ℕ} where
  module _ (h : Followed base e f f') where
    pub followed_group : Followed base (group e) f f'
    unfolding follows size
    followed_group = record { followed = h.followed }

    pub followed_optional : Followed base (optional e) f f'
    unfolding follows size
    followed_optional = record { followed = h.followed }

-- what follows a position of the first part, or of the second
module _ (base p : ℕ) (e g : Expression) where
  abbrev sets : Bool → (ℕ → Bool) → (ℕ → Bool) → (ℕ → Bool) → ℕ
  sets t S T U = set_of (from base (λ q. if t (of_part (size e) S T q) (of_part (size e) (λ r. false) U q)))

  module _ (S T U : ℕ → Bool) where
    sets_first : base ≤ p → p < base + size e → sets true S T U ≡ sets (ltb (p - base) (size e)) S T U
    sets_first h k = ap (λ (t : Bool). sets t S T U) (sym (lt-ltb (p - base) (size e) (omega arith)))

  sets_second : (S T : ℕ → Bool) → base + size e ≤ p → sets false S T (follows g (p - (base + size e)))
      ≡ sets (ltb (p - base) (size e)) S T (follows g (p - base - size e))
  sets_second S T h =
      let d : p - (base + size e) ≡ p - base - size e = omega arith in
      ap (λ (x : ℕ). sets false S T (follows g x)) d
      ∙ ap (λ (t : Bool). sets t S T (follows g (p - base - size e))) (sym (le-ltb (p - base) (size e) (omega arith)))

  follows-first : base ≤ p → p < base + size e
      → set_of (from base (follows e (p - base))) ≡ set_of (from base (follows (union e g) (p - base)))
  unfolding follows
  follows-first h k =
      first-set base (size e) (follows e (p - base)) (λ q l. (follows_below e (p - base) q l).1)
      ∙ sets_first (follows e (p - base)) (λ r. false) (follows g (p - base - size e)) h k

  follows_second : base + size e ≤ p
      → set_of (from (base + size e) (follows g (p - (base + size e)))) ≡ set_of (from base (follows (union e g) (p - base)))
  unfolding follows
  follows_second h =
      second_set base (size e) (follows g (p - (base + size e))) ∙ sets_second (follows e (p - base)) (λ r. false) h

  follows_linked : base ≤ p → p < base + size e
      → if (last e (p - base)) (bit_or (set_of (from base (follows e (p - base)))) (set_of (from (base + size e) (first g))))
      (set_of (from base (follows e (p - base))))
      ≡ set_of (from base (follows (concat e g) (p - base)))
  unfolding follows
  follows_linked h k =
      go (last e (p - base))
      ∙ sets_first (follows e (p - base)) (λ r. last e (p - base) && first g r) (follows g (p - base - size e)) h k
    where
      own : (q : ℕ) → follows e (p - base) q ≡ true → q < size e
      own q l = (follows_below e (p - base) q l).1

      go : (t : Bool) → if t (bit_or (set_of (from base (follows e (p - base)))) (set_of (from (base + size e) (first g))))
          (set_of (from base (follows e (p - base))))
          ≡ set_of (from base (of_part (size e) (follows e (p - base)) (λ r. t && first g r)))
      go true = both_set base (size e) (follows e (p - base)) own (first g)
      go false = first-set base (size e) (follows e (p - base)) own

  follows-behind : base + size e ≤ p
      → set_of (from (base + size e) (follows g (p - (base + size e)))) ≡ set_of (from base (follows (concat e g) (p - base)))
  unfolding follows
  follows-behind h =
      second_set base (size e) (follows g (p - (base + size e)))
      ∙ sets_second (follows e (p - base)) (λ r. last e (p - base) && first g r) h

module _ {base : ℕ} {e : Expression} {f f' : List ℕ} (h : Followed base e f f') where
  module _ {g : Expression} {f'' : List ℕ} (k : Followed (base + size e) g f' f'') where
    before_both : (p : ℕ) → p < 64 → p < base → get_or f'' p 0 ≡ get_or f p 0
    before_both p l b = before_kept (base + size e) g f' f'' p l k (omega arith) ∙ before_kept base e f f' p l h b

    behind_both : (p : ℕ) → p < 64 → base + (size e + size g) ≤ p → get_or f'' p 0 ≡ get_or f p 0
    behind_both p l b = behind_kept (base + size e) g f' f'' p l k (omega arith) ∙ behind_kept base e f f' p l h (omega arith)

    in_first : (p : ℕ) → p < 64 → base ≤ p → p < base + size e → get_or f'' p 0 ≡ set_of (from base (follows e (p - base)))
    in_first p l b i = before_kept (base + size e) g f' f'' p l k i ∙ inside_follows base e f f' p l h b i

    in_second : (p : ℕ) → p < 64 → base + size e ≤ p → p < base + (size e + size g)
        → get_or f'' p 0 ≡ set_of (from (base + size e) (follows g (p - (base + size e))))
    in_second p l b i = inside_follows (base + size e) g f' f'' p l k b (omega arith)

    pub followed_union : Followed base (union e g) f f''
    unfolding size
    followed_union = by_parts base (union e g) f f'' before_both
        (λ p l b i. by_place base (size e) p (λ c. absurd (omega arith))
        (λ c d. in_first p l c d ∙ follows-first base p e g c d) (λ c. in_second p l c i ∙ follows_second base p e g c))
        behind_both

    pub followed_concat : {f''' : List ℕ}
        → Linked base (base + size e) (set_of (from base (last e))) (set_of (from (base + size e) (first g))) f'' f'''
        → Followed base (concat e g) f f'''
    unfolding size
    followed_concat {f'''} m = by_parts base (concat e g) f f'''
        (λ p l b. before_unlinked base e f'' f''' p l firsts m b ∙ before_both p l b)
        (λ p l b i. by_place base (size e) p (λ c. absurd (omega arith))
        (λ c d. inside_linked base e f'' f''' p l firsts m c d
        ∙ ap (λ (x : ℕ). if (last e (p - base)) (bit_or x firsts) x) (in_first p l c d) ∙ follows_linked base p e g c d)
        (λ c. behind_unlinked base e f'' f''' p l firsts m c ∙ in_second p l c i ∙ follows-behind base p e g c))
        (λ p l b. behind_unlinked base e f'' f''' p l firsts m (omega arith) ∙ behind_both p l b)
      where
        firsts : ℕ
        firsts = set_of (from (base + size e) (first g))

  module _ {f'' : List ℕ} (m : Linked base (base + size e) (set_of (from base (last e))) (set_of (from base (first e))) f' f'') where
    again : (p : ℕ) → p < 64 → base ≤ p → p < base + size e
        → get_or f'' p 0 ≡ set_of (from base (λ q. follows e (p - base) q || last e (p - base) && first e q))
    again p l b i =
        inside_linked base e f' f'' p l (set_of (from base (first e))) m b i
        ∙ ap (λ (x : ℕ). if (last e (p - base)) (bit_or x (set_of (from base (first e)))) x) (inside_follows base e f f' p l h b i)
        ∙ go (last e (p - base))
      where
        go : (t : Bool) → if t (bit_or (set_of (from base (follows e (p - base)))) (set_of (from base (first e))))
            (set_of (from base (follows e (p - base))))
            ≡ set_of (from base (λ q. follows e (p - base) q || t && first e q))
        go true = or_set base (follows e (p - base)) (first e)
        go false = set_same 64 (from base (follows e (p - base))) (from base (λ q. follows e (p - base) q || false))
            (λ q k. ap (λ (t : Bool). leb base q && t) (sym (or_none (follows e (p - base) (q - base)))))

    before_again : (p : ℕ) → p < 64 → p < base → get_or f'' p 0 ≡ get_or f p 0
    before_again p l b = before_unlinked base e f' f'' p l (set_of (from base (first e))) m b ∙ before_kept base e f f' p l h b

    behind_again : (p : ℕ) → p < 64 → base + size e ≤ p → get_or f'' p 0 ≡ get_or f p 0
    behind_again p l b = behind_unlinked base e f' f'' p l (set_of (from base (first e))) m b ∙ behind_kept base e f f' p l h b

    pub followed_star : Followed base (star e) f f''
    unfolding follows size
    followed_star = by_parts base (star e) f f'' before_again again behind_again

    pub followed_plus : Followed base (plus e) f f''
    unfolding follows size
    followed_plus = by_parts base (plus e) f f'' before_again again behind_again

-- ---- the part

part_same : {a a' n n' d d' : ℕ} {m m' : Bool} {x x' y y' : ℕ} → a ≡ a' → n ≡ n' → d ≡ d' → m ≡ m' → x ≡ x' → y ≡ y'
    → ◌≡◌ {A = Part} (record { at = a; end = n; depth = d; empty = m; first = x; last = y })
    (record { at = a'; end = n'; depth = d'; empty = m'; first = x'; last = y' })
part_same p q r s t u = rw (p, q, r, s, t, u)

module _ (text : List ℕ) (base : ℕ) (e f : Expression) (r s : List ℕ) where
  pub part_union : united_part (part_of text base e r) (part_of text (base + size e) f s) ≡ part_of text base (union e f) s
  unfolding size depth nullable first last
  part_union = part_same refl (omega arith) refl refl
      (both_set base (size e) (first e) (first_below e) (first f)) (both_set base (size e) (last e) (last_below e) (last f))

  firsts_joined : (t : Bool) → widened t (set_of (from base (first e))) (set_of (from (base + size e) (first f)))
      ≡ set_of (from base (of_part (size e) (first e) (λ q. t && first f q)))
  firsts_joined true = both_set base (size e) (first e) (first_below e) (first f)
  firsts_joined false = first-set base (size e) (first e) (first_below e)

  lasts_joined : (t : Bool) → widened t (set_of (from (base + size e) (last f))) (set_of (from base (last e)))
      ≡ set_of (from base (of_part (size e) (λ q. t && last e q) (last f)))
  lasts_joined true =
      or_comm (set_of (from (base + size e) (last f))) (set_of (from base (last e)))
      ∙ both_set base (size e) (last e) (last_below e) (last f)
  lasts_joined false = second_set base (size e) (last f)

  pub part_concat : joined_part (part_of text base e r) (part_of text (base + size e) f s) ≡ part_of text base (concat e f) s
  unfolding size depth nullable first last
  part_concat = part_same refl (omega arith) refl refl (firsts_joined (nullable e)) (lasts_joined (nullable f))

module _ (text : List ℕ) (base : ℕ) (e : Expression) (b : ℕ) (t : List ℕ) (h : length (b ∷ t) ≤ length text) where
  next_place : place_of text (b ∷ t) + 1 ≡ place_of text t
  next_place = omega arith

  pub part_star : made_part (part_of text base e (b ∷ t)) (depth e) true ≡ part_of text base (star e) t
  unfolding size depth nullable first last
  part_star = part_same next_place refl refl refl refl refl

  pub part_optional : made_part (part_of text base e (b ∷ t)) (depth e) true ≡ part_of text base (optional e) t
  unfolding size depth nullable first last
  part_optional = part_same next_place refl refl refl refl refl

  pub part_plus : made_part (part_of text base e (b ∷ t)) (depth e) (nullable e) ≡ part_of text base (plus e) t
  unfolding size depth nullable first last
  part_plus = part_same next_place refl refl refl refl refl

  pub part_group : made_part (part_of text base e (b ∷ t)) (depth e + 1) (nullable e) ≡ part_of text base (group e) t
  unfolding size depth nullable first last
  part_group = part_same next_place refl (omega arith) refl refl refl
