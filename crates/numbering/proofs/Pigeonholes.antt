-- Distinct numbers below n that avoid one of those below n are fewer than n.
use Rattle.std.proofs.Common.{◌≡◌, ℕ, zero, suc, ◌<◌, cond, eqb, ◌⊎◌, sym, ◌∙◌, inl, inr, arith, eq-eqb, ne_eqb}
use Rattle.std.proofs.lemmas.Bool.{cases_eq}

abbrev pub Distinct : (ℕ → ℕ) → ℕ → Type 0
Distinct f m = (j k : ℕ) → j < k → k < m → f j ≡ f k → ⊥

-- r in the place of n
in_place : ℕ → ℕ → ℕ → ℕ
in_place n r x = cond (eqb x n) r x

in_place_is : (n r x : ℕ) → ((x ≡ n) × (in_place n r x ≡ r)) ⊎ ((x ≡ n → ⊥) × (in_place n r x ≡ x))
unfolding in_place
in_place_is n r x = pick (cases_eq x n)
  where
    pick : (x ≡ n) ⊎ (x ≡ n → ⊥) → ((x ≡ n) × (cond (eqb x n) r x ≡ r)) ⊎ ((x ≡ n → ⊥) × (cond (eqb x n) r x ≡ x))
    pick (inl e) = inl (e, rw (eq-eqb x n e))
    pick (inr e) = inr (e, rw (ne_eqb x n e))

in_place_below : (n r x : ℕ) → r < suc n → x < suc n → (x ≡ r → ⊥) → in_place n r x < n
in_place_below n r x r-in x-in apart = pick (in_place_is n r x) (cases_eq n r)
  where
    pick : ((x ≡ n) × (in_place n r x ≡ r)) ⊎ ((x ≡ n → ⊥) × (in_place n r x ≡ x)) → (n ≡ r) ⊎ (n ≡ r → ⊥) → in_place n r x < n
    pick (inl (e, p)) (inl q) = absurd (apart (e ∙ q))
    pick (inl (e, p)) (inr q) = omega arith
    pick (inr (e, p)) q = omega arith

in_place_distinct : (n r x y : ℕ) → (x ≡ y → ⊥) → (x ≡ r → ⊥) → (y ≡ r → ⊥) → in_place n r x ≡ in_place n r y → ⊥
in_place_distinct n r x y apart x-apart y-apart e = pick (in_place_is n r x) (in_place_is n r y)
  where
    pick : ((x ≡ n) × (in_place n r x ≡ r)) ⊎ ((x ≡ n → ⊥) × (in_place n r x ≡ x)) → ((y ≡ n) × (in_place n r y ≡ r)) ⊎ ((y ≡ n → ⊥) × (in_place n r y ≡ y)) → ⊥
    pick (inl (p, q)) (inl (s, t)) = apart (p ∙ sym s)
    pick (inl (p, q)) (inr (s, t)) = y-apart (sym t ∙ sym e ∙ q)
    pick (inr (p, q)) (inl (s, t)) = x-apart (sym q ∙ e ∙ t)
    pick (inr (p, q)) (inr (s, t)) = apart (sym q ∙ e ∙ t)

pub room_left : (n m r : ℕ) (f : ℕ → ℕ) → r < n → ((k : ℕ) → k < m → f k < n) → Distinct f m → ((k : ℕ) → k < m → f k ≡ r → ⊥) → m < n
room_left zero m r f r-in below distinct avoids = absurd (omega arith)
room_left (suc n) zero r f r-in below distinct avoids = omega arith
room_left (suc n) (suc m) r f r-in below distinct avoids =
    let h = room_left n m (in_place n r (f m)) (λ k. in_place n r (f k))
    (in_place_below n r (f m) r-in (below m (omega arith)) (avoids m (omega arith)))
    (λ k lt. in_place_below n r (f k) r-in (below k (omega arith)) (avoids k (omega arith)))
    (λ j k lt in-m. in_place_distinct n r (f j) (f k) (distinct j k lt (omega arith)) (avoids j (omega arith)) (avoids k (omega arith)))
    (λ k lt. in_place_distinct n r (f k) (f m) (distinct k m lt (omega arith)) (avoids k (omega arith)) (avoids m (omega arith)))
    in omega arith
