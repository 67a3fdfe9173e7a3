-- Where the elements of a list stand.
use Rattle.std.proofs.Common.{◌≡◌, ℕ, suc, ◌+◌, ◌<◌, ◌⊎◌, List, [], ◌∷◌, length, get_or, take, sym, subst, inl, inr, arith}
use mathlib.Core.List.Memᴰ
use mathlib.Core.List.{Memᴰ}
use Rattle.std.proofs.lemmas.List.{take_more}

module _ {A : Type 0} where
  -- each element stands at a position
  pub place_of : {a : A} {l : List A} (d : A) → Memᴰ a l → (i : ℕ) × (i < length l) × (get_or l i d ≡ a)
  place_of d (Memᴰ.head e) = (0, omega arith, sym e)
  place_of d (Memᴰ.tail m) = let p = place_of d m in (suc p.0, omega arith, p.2)

  -- one more element of a front
  pub front_more : (l : List A) (i : ℕ) (d : A) → i < length l → {a : A}
      → Memᴰ a (take (i + 1) l) → Memᴰ a (take i l) ⊎ (a ≡ get_or l i d)
  front_more l i d h {a} m =
      elim (Memᴰ.append_cases (take i l) (subst (λ (x : List A). Memᴰ a x) (take_more l i d h) m))
      [ inl k ↦ inl k | inr k ↦ inr (Memᴰ.eq_of_singleton k) ]

  pub front_keeps : (l : List A) (i : ℕ) (d : A) → i < length l → {a : A} → Memᴰ a (take i l) → Memᴰ a (take (i + 1) l)
  front_keeps l i d h {a} m =
      subst (λ (x : List A). Memᴰ a x) (sym (take_more l i d h)) (Memᴰ.append_left (get_or l i d ∷ []) m)

  pub front_has : (l : List A) (i : ℕ) (d : A) → i < length l → {a : A} → a ≡ get_or l i d → Memᴰ a (take (i + 1) l)
  front_has l i d h {a} e =
      subst (λ (x : List A). Memᴰ a x) (sym (take_more l i d h)) (Memᴰ.append_right (take i l) (Memᴰ.head e))
