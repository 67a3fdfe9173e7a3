-- One text for each element of a list, put one after another.
use Rattle.std.proofs.Common.{◌≡◌, ℕ, suc, ◌+◌, ◌<◌, ◌≤◌, List, [], ◌∷◌, ◌++◌, length, get_or, take, drop, decimal, sym, refl, ap, ◌∙◌, append_assoc, append-nil, arith, length-append, take-append-drop, drop-cons}
use mathlib.Core.List.{flat_map}
use Rattle.std.proofs.lemmas.List.{take_more}
use Rattle.buffers.specs.Writing.{Wrote}
use Rattle.buffers.specs.declared.Writer.{Writer}
use Rattle.buffers.proofs.Runs.{wrote_append, wrote_same}
use Rattle.notation.specs.Notation.{point, written_path}

module _ (f : ℕ → List ℕ) where
  flat_append : (xs ys : List ℕ) → flat_map f (xs ++ ys) ≡ flat_map f xs ++ flat_map f ys
  unfolding flat_map
  flat_append [] ys = refl
  flat_append (x ∷ xs) ys = ap (λ (t : List ℕ). f x ++ t) (flat_append xs ys) ∙ sym (append_assoc (f x) (flat_map f xs) (flat_map f ys))

  pub flat_one : (x : ℕ) → flat_map f (x ∷ []) ≡ f x
  unfolding flat_map
  flat_one x = append-nil (f x)

  pub flat_none : flat_map f [] ≡ []
  unfolding flat_map
  flat_none = refl

  flat_cons : (x : ℕ) (xs : List ℕ) → flat_map f (x ∷ xs) ≡ f x ++ flat_map f xs
  unfolding flat_map
  flat_cons x xs = refl

  -- one element more
  module _ (xs : List ℕ) (i : ℕ) (l : i < length xs) where
    pub flat_more : flat_map f (take (i + 1) xs) ≡ flat_map f (take i xs) ++ f (get_or xs i 0)
    flat_more =
        ap (flat_map f) (take_more xs i 0 l) ∙ flat_append (take i xs) (get_or xs i 0 ∷ []) ∙ ap (λ (t : List ℕ). flat_map f (take i xs) ++ t) (flat_one (get_or xs i 0))

    pub flat_room : length (flat_map f (take i xs)) + length (f (get_or xs i 0)) ≤ length (flat_map f xs)
    flat_room =
        let x = get_or xs i 0 in
        let rest : List ℕ = flat_map f (drop (suc i) xs) in
        let whole =
        ap length (ap (flat_map f) (sym (take-append-drop i xs) ∙ ap (λ (t : List ℕ). take i xs ++ t) (drop-cons xs i 0 l)) ∙ flat_append (take i xs) (x ∷ drop (suc i) xs)
        ∙ ap (λ (t : List ℕ). flat_map f (take i xs) ++ t) (flat_cons x (drop (suc i) xs))) in
        omega (arith, whole, length-append (flat_map f (take i xs)) (f x ++ rest), length-append (f x) rest)

    pub wrote_next : {x y z : Writer} → Wrote (flat_map f (take i xs)) x y → Wrote (f (get_or xs i 0)) y z → Wrote (flat_map f (take (i + 1) xs)) x z
    wrote_next p q = wrote_same (sym flat_more) (wrote_append p q)

abbrev pub attribute_text : ℕ → List ℕ
attribute_text a = point ∷ decimal a

pub written_path_flat : (path : List ℕ) → written_path path ≡ flat_map attribute_text path
unfolding flat_map
written_path_flat [] = refl
written_path_flat (a ∷ path) = ap (λ (t : List ℕ). point ∷ (decimal a ++ t)) (written_path_flat path)
