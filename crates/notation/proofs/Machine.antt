-- A machine for the notation: what each reading becomes by one byte more, and what it says at the end of a line.
use Rattle.std.proofs.Common.{◌≡◌, ℕ, ◌+◌, ◌-◌, ◌*◌, ◌^◌, ◌<◌, ◌≤◌, false, cond, ◌&&◌, eqb, ltb, leb, List, [], ◌∷◌, Some, None, Option, ap, ◌∙◌, inl, inr, arith}
use Rattle.std.specs.Option.{option_map, option_and_then}
use Rattle.std.proofs.lemmas.Bool.{cond-true, cond-false, and_from, and_left, and_right, le-leb, lt-leb, lt-ltb, le-ltb, ne_eqb, cases_lt}
use Rattle.features.specs.Terms.{Term}
use Rattle.notation.specs.Notation.{Command, declare, is, list}
use Rattle.notation.specs.Classes.{Classed}
use Rattle.notation.specs.Readings.{Reading, start, named, within_term, within_value, closed, ended}
use Rattle.notation.specs.declared.state.Place.{Place}
use Rattle.notation.specs.declared.class.Relation.{Relation}
use Rattle.notation.specs.declared.class.Call.{Call}
use Rattle.notation.specs.declared.class.Class.{Class}

-- the class of a byte that is no digit
abbrev pub mark_of : ℕ → Class
mark_of b =
    cond (eqb b 118) (Class.Letter Call.Declare)
    (cond (eqb b 108) (Class.Letter Call.List)
    (cond (eqb b 119) (Class.Letter Call.Value)
    (cond (eqb b 107) (Class.Letter Call.Is)
    (cond (eqb b 101) (Class.Letter (Call.Relate Relation.Equals))
    (cond (eqb b 100) (Class.Letter (Call.Relate Relation.Apart))
    (cond (eqb b 115) (Class.Letter (Call.Relate Relation.Same))
    (cond (eqb b 46) Class.Point
    (cond (eqb b 32) Class.Space Class.Other))))))))

abbrev pub class_of : ℕ → Class
class_of b = cond (leb 48 b && ltb b 58) (Class.Digit (b - 48)) (mark_of b)

pub class_digit : (d : ℕ) → d < 10 → class_of (48 + d) ≡ Class.Digit d
class_digit d h = cond-true _ _ _ (and_from _ _ (le-leb 48 (48 + d) (omega arith)) (lt-ltb (48 + d) 58 (omega arith))) ∙ ap Class.Digit (omega arith)

pub class_of_classed : (b : ℕ) (k : Class) → Classed b k → class_of b ≡ k
class_of_classed b (Class.Letter Call.Declare) e = ap class_of e
class_of_classed b (Class.Letter Call.List) e = ap class_of e
class_of_classed b (Class.Letter Call.Value) e = ap class_of e
class_of_classed b (Class.Letter Call.Is) e = ap class_of e
class_of_classed b (Class.Letter (Call.Relate Relation.Equals)) e = ap class_of e
class_of_classed b (Class.Letter (Call.Relate Relation.Apart)) e = ap class_of e
class_of_classed b (Class.Letter (Call.Relate Relation.Same)) e = ap class_of e
class_of_classed b (Class.Digit d) h = ap class_of h.1 ∙ class_digit d h.0
class_of_classed b Class.Point e = ap class_of e
class_of_classed b Class.Space e = ap class_of e
class_of_classed b Class.Other h =
    let no_digit : (leb 48 b && ltb b 58) ≡ false = elim (cases_lt b 48) [ inl l ↦ and_left _ _ (lt-leb 48 b l) | inr g ↦ and_right _ _ (le-ltb b 58 (elim (cases_lt b 58) [ inl l ↦ absurd (h.1 g l) | inr q ↦ q ])) ] in
    let v = ne_eqb b 118 (h.0 Call.Declare) in
    let l = ne_eqb b 108 (h.0 Call.List) in
    let w = ne_eqb b 119 (h.0 Call.Value) in
    let k = ne_eqb b 107 (h.0 Call.Is) in
    let e = ne_eqb b 101 (h.0 (Call.Relate Relation.Equals)) in
    let d = ne_eqb b 100 (h.0 (Call.Relate Relation.Apart)) in
    let s = ne_eqb b 115 (h.0 (Call.Relate Relation.Same)) in
    let p = ne_eqb b 46 h.2 in
    let q = ne_eqb b 32 h.3 in
    cc

-- one digit more: none after a zero, and none that leads to the limit
abbrev pub grown : ℕ → Option ℕ → ℕ → Option ℕ
grown limit None d = Some d
grown limit (Some n) d = cond (ltb 0 n && ltb (n * 10 + d) limit) (Some (n * 10 + d)) None

pub grown_some : (limit n d : ℕ) → 0 < n → n * 10 + d < limit → grown limit (Some n) d ≡ Some (n * 10 + d)
grown_some limit n d h l = cond-true _ _ _ (and_from _ _ (lt-ltb 0 n h) (lt-ltb (n * 10 + d) limit l))

pub grown_none : (limit n d : ℕ) → (0 < n → n * 10 + d < limit → ⊥) → grown limit (Some n) d ≡ None
grown_none limit n d h =
    let within : n * 10 + d < limit → n ≤ 0 = λ b. elim (cases_lt 0 n) [ inl l ↦ absurd (h l b) | inr z ↦ z ] in
    let stuck : (ltb 0 n && ltb (n * 10 + d) limit) ≡ false = elim (cases_lt (n * 10 + d) limit) [ inl b ↦ and_left _ _ (le-ltb 0 n (within b)) | inr q ↦ and_right _ _ (le-ltb (n * 10 + d) limit q) ] in
    cond-false _ _ _ stuck

-- a space after a call's letter, and after a term
abbrev pub opened : Call → Option Reading
opened Call.Declare = None
opened Call.List = None
opened Call.Value = Some (within_term Place.Value None None)
opened Call.Is = Some (within_term Place.Is None None)
opened (Call.Relate r) = Some (within_term (Place.Left r) None None)

abbrev pub next : Place → Term → Option Reading
next Place.Value t = None
next Place.Is t = Some (within_value t None)
next (Place.Left r) t = Some (within_term (Place.Right r t) None None)
next (Place.Right r p) t = None

abbrev pub pointed : Place → Option Term → Option ℕ → Option Reading
pointed o stem n = option_and_then (λ k. Some (within_term o (Some (closed stem k)) None)) n

abbrev pub spaced : Place → Option Term → Option ℕ → Option Reading
spaced o stem n = option_and_then (λ k. next o (closed stem k)) n

abbrev pub step : Reading → Class → Option Reading
step start (Class.Letter c) = Some (named c)
step start (Class.Digit d) = None
step start Class.Point = None
step start Class.Space = None
step start Class.Other = None
step (named c) (Class.Letter l) = None
step (named c) (Class.Digit d) = None
step (named c) Class.Point = None
step (named c) Class.Space = opened c
step (named c) Class.Other = None
step (within_term o stem n) (Class.Letter l) = None
step (within_term o stem n) (Class.Digit d) = option_map (λ m. within_term o stem (Some m)) (grown (2 ^ 16) n d)
step (within_term o stem n) Class.Point = pointed o stem n
step (within_term o stem n) Class.Space = spaced o stem n
step (within_term o stem n) Class.Other = None
step (within_value p n) (Class.Letter l) = None
step (within_value p n) (Class.Digit d) = option_map (λ m. within_value p (Some m)) (grown (2 ^ 64) n d)
step (within_value p n) Class.Point = None
step (within_value p n) Class.Space = None
step (within_value p n) Class.Other = None

abbrev pub run : Option Reading → List ℕ → Option Reading
run None bytes = None
run (Some s) [] = Some s
run (Some s) (b ∷ bytes) = run (step s (class_of b)) bytes

abbrev pub command : Reading → Option Command
command start = None
command (named Call.Declare) = Some declare
command (named Call.List) = Some list
command (named Call.Value) = None
command (named Call.Is) = None
command (named (Call.Relate r)) = None
command (within_term o stem n) = option_and_then (λ k. ended o (closed stem k)) n
command (within_value p n) = option_map (is p) n
