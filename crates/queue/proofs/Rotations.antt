-- A list read from some place on and then from its start: a store at its end, and a step past its first entry.
use Rattle.std.proofs.Common.{◌≡◌, ℕ, zero, suc, ◌+◌, ◌-◌, ◌<◌, ◌≤◌, List, [], ◌∷◌, ◌++◌, length, get_or, take, drop, set, sym, ap, ◌∙◌, append_assoc, append-nil, add-one, arith, length-append, length-drop, drop_of_length-le, length-take-le, take_all, drop-cons, take-suc, drop-set-lt}
use lib.Seq.{take-append-le, take-set-le, take-set-lt, drop-set-add, set-append_left}
use Rattle.std.proofs.lemmas.List.{set-append_right, take_more_set}
use Rattle.queue.specs.Waiting.{rotated}

module _ {X : Type 0} (s : List X) where
  pub length_rotated : (h : ℕ) → h ≤ length s → length (rotated h s) ≡ length s
  length_rotated h i =
      length-append (drop h s) (take h s) ∙ omega (arith, length-drop h s, length-take-le h s i)

  pub length_front : (h l : ℕ) → h ≤ length s → l ≤ length s → length (take l (rotated h s)) ≡ l
  length_front h l i j =
      let e = length_rotated h i in
      length-take-le l (rotated h s) (omega arith)

  -- the store lies before the end of the list
  set_before : (h l : ℕ) (x : X) → h ≤ length s → l < length s - h
      → rotated h (set s (h + l) x) ≡ set (rotated h s) l x
  set_before h l x i j =
      let a = drop-set-add h s l x in
      let b = take-set-le h s (h + l) x (omega arith) in
      let c = set-append_left (drop h s) (take h s) l x (omega (arith, length-drop h s)) in
      cc

  -- the store lies past the end, so round at the start
  set_round : (h l : ℕ) (x : X) → h ≤ length s → length s - h ≤ l → l < length s
      → rotated h (set s (l - (length s - h)) x) ≡ set (rotated h s) l x
  set_round h l x i j k =
      let a = drop-set-lt h s (l - (length s - h)) x (omega arith) in
      let b = take-set-lt h s (l - (length s - h)) x (omega arith) in
      let c = set-append_right (drop h s) (take h s) (length s - h) l x (length-drop h s) j in
      cc

  pub front_before : (h l : ℕ) (x : X) → h ≤ length s → l < length s - h
      → take (l + 1) (rotated h (set s (h + l) x)) ≡ take l (rotated h s) ++ (x ∷ [])
  front_before h l x i j =
      let e = length_rotated h i in
      ap (take (l + 1)) (set_before h l x i j) ∙ take_more_set (rotated h s) l x (omega arith)

  pub front_round : (h l : ℕ) (x : X) → h ≤ length s → length s - h ≤ l → l < length s
      → take (l + 1) (rotated h (set s (l - (length s - h)) x)) ≡ take l (rotated h s) ++ (x ∷ [])
  front_round h l x i j k =
      let e = length_rotated h i in
      ap (take (l + 1)) (set_round h l x i j k) ∙ take_more_set (rotated h s) l x (omega arith)

  -- one step on, the first entry has gone to the end
  rotated_more : (h : ℕ) (d : X) → h < length s
      → (rotated h s ≡ get_or s h d ∷ (drop (suc h) s ++ take h s))
      × (rotated (h + 1) s ≡ (drop (suc h) s ++ take h s) ++ (get_or s h d ∷ []))
  rotated_more h d i = (
    ap (λ t. t ++ take h s) (drop-cons s h d i),
    rw (add-one, take-suc s h d i) (sym (append_assoc (drop (suc h) s) (take h s) (get_or s h d ∷ []))),
  )

  pub front_more : (h l : ℕ) (d : X) → h < length s → 0 < l → l ≤ length s
      → take l (rotated h s) ≡ get_or s h d ∷ take (l - 1) (rotated (h + 1) s)
  front_more h zero d i j k = absurd (omega arith)
  front_more h (suc l) d i j k =
      let e : suc l - 1 ≡ l = omega arith in
      let r = rotated_more h d i in
      let rest : List X = drop (suc h) s ++ take h s in
      let n : l ≤ length rest = omega (arith, length-append (drop (suc h) s) (take h s), length-drop (suc h) s, length-take-le h s (omega arith)) in
      let a : take (suc l) (rotated h s) ≡ get_or s h d ∷ take l rest = ap (take (suc l)) r.0 in
      let b : take l (rotated (h + 1) s) ≡ take l rest = ap (take l) r.1 ∙ take-append-le l rest (get_or s h d ∷ []) n in
      cc

  pub rotated_whole : (h : ℕ) → length s ≤ h → rotated h s ≡ rotated 0 s
  rotated_whole h i =
      let a = drop_of_length-le s i in
      let b = take_all h s i in
      let c = append-nil s in
      cc
