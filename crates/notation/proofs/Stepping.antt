-- One byte more: the machine goes on to the longer text where a line begins so, and stops where none does.
use Rattle.std.proofs.Common.{◌≡◌, ℕ, ◌+◌, ◌*◌, ◌/◌, ◌%◌, ◌^◌, ◌<◌, ◌≤◌, true, ◌&&◌, ltb, List, [], ◌∷◌, ◌++◌, length, IfSome, Some, None, decimal, Option, sym, refl, ap, ◌∙◌, subst, append_assoc, append-nil, arith, length-append, MatchOption}
use Rattle.std.specs.Option.{option_map}
use Rattle.std.specs.List.{AllByRecursion}
use Rattle.std.proofs.lemmas.Fmt.{decimal_digit, decimal_step, decimal_nonempty}
use Rattle.std.proofs.ByRecursion.{All-push}
use Rattle.std.proofs.lemmas.Bool.{cond_both, and_parts, ltb-true}
use Rattle.features.specs.Terms.{Term}
use Rattle.notation.specs.Notation.{Command, space, point, written_path, written_term, Sized, Writes, Good}
use Rattle.notation.specs.Classes.{Classed, relation_letter}
use Rattle.notation.specs.Readings.{Reading, start, named, within_term, within_value, closed, text, place_text, stem_text, number_text, Below, SizedStem, SizedPlace, Ranged, Follows, related}
use Rattle.notation.specs.declared.state.Place.{Place}
use Rattle.notation.specs.declared.class.Relation.{Relation}
use Rattle.notation.specs.declared.class.Call.{Call}
use Rattle.notation.specs.declared.class.Class.{Class}
use Rattle.notation.proofs.Machine.{class_of_classed, grown, step, run, command}
use Rattle.notation.proofs.Running.{run_text, accepts}

-- one attribute more in a path, and in a term
written_path_more : (path : List ℕ) (a : ℕ) → written_path (path ++ (a ∷ [])) ≡ written_path path ++ (point ∷ decimal a)
written_path_more [] a = ap (λ x. point ∷ x) (append-nil (decimal a))
written_path_more (b ∷ path) a = ap (λ x. point ∷ (decimal b ++ x)) (written_path_more path a) ∙ ap (λ x. point ∷ x) (sym (append_assoc (decimal b) (written_path path) (point ∷ decimal a)))

closed_text : (stem : Option Term) (n : ℕ) → written_term (closed stem n) ≡ stem_text stem ++ decimal n
unfolding written_term
closed_text None n = append-nil (decimal n)
closed_text (Some t) n = ap (λ x. decimal t.var ++ x) (written_path_more t.path n) ∙ sym (append_assoc (decimal t.var) (written_path t.path) (point ∷ decimal n)) ∙ sym (append_assoc (written_term t) (point ∷ []) (decimal n))

closed_sized : (stem : Option Term) (n : ℕ) → SizedStem stem → n < 2 ^ 16 → Sized (closed stem n)
closed_sized None n h l = record { var = l; path = tt }
closed_sized (Some t) n h l = record { var = h.var; path = All-push (λ a. a < 2 ^ 16) t.path n h.path l }

grown_text : (limit : ℕ) (m : Option ℕ) (d : ℕ) → d < 10 → 10 ≤ limit → limit ≤ 2 ^ 64 → IfSome (grown limit m d) (λ n. (decimal n ≡ number_text m ++ ((48 + d) ∷ [])) × (n < limit))
grown_text limit None d h low high = (decimal_digit d h, omega arith)
grown_text limit (Some n) d h low high = cond_both (ltb 0 n && ltb (n * 10 + d) limit) (Some (n * 10 + d)) None (λ o. IfSome o Longer) grows (λ e. tt)
  where
    Longer : ℕ → Type 0
    Longer k = (decimal k ≡ decimal n ++ ((48 + d) ∷ [])) × (k < limit)

    grows : (ltb 0 n && ltb (n * 10 + d) limit) ≡ true → Longer (n * 10 + d)
    grows e =
        let both = and_parts (ltb 0 n) (ltb (n * 10 + d) limit) e in
        let some : 0 < n = ltb-true 0 n both.0 in
        let below : n * 10 + d < limit = ltb-true (n * 10 + d) limit both.1 in
        let front : (n * 10 + d) / 10 ≡ n = omega arith in
        let last : (n * 10 + d) % 10 ≡ d = omega arith in
        (decimal_step (n * 10 + d) (omega arith) (omega arith) ∙ (λ i. decimal (front i) ++ ((48 + last i) ∷ [])), below)

cases_mapped : {A B : Type 0} (f : A → B) (o : Option A) (P : Type 0) (Q : A → Type 0) (R : B → Type 0) → MatchOption o P Q → ((x : A) → Q x → R (f x)) → MatchOption (option_map f o) P R
cases_mapped f None P Q R h g = h
cases_mapped f (Some x) P Q R h g = g x h

term_push : (o : Place) (stem : Option Term) (n : Option ℕ) (k b : ℕ) → decimal k ≡ number_text n ++ (b ∷ []) → text (within_term o stem (Some k)) ≡ text (within_term o stem n) ++ (b ∷ [])
term_push o stem n k b e =
    ap (λ x. place_text o ++ (stem_text stem ++ x)) e ∙ ap (λ x. place_text o ++ x) (sym (append_assoc (stem_text stem) (number_text n) (b ∷ [])))
    ∙ sym (append_assoc (place_text o) (stem_text stem ++ number_text n) (b ∷ []))

digit_moves : (s : Reading) (d : ℕ) → d < 10 → Ranged s → IfSome (step s (Class.Digit d)) (Follows s (48 + d))
digit_moves start d l h = tt
digit_moves (named c) d l h = tt
digit_moves (within_term o stem n) d l h =
    cases_mapped (λ m. within_term o stem (Some m)) (grown (2 ^ 16) n d) (Unit {0}) _ (Follows (within_term o stem n) (48 + d)) (grown_text (2 ^ 16) n d l (omega arith) (omega arith))
    (λ k g. (term_push o stem n k (48 + d) g.0, (h.0, h.1, g.1)))
digit_moves (within_value p n) d l h =
    cases_mapped (λ m. within_value p (Some m)) (grown (2 ^ 64) n d) (Unit {0}) _ (Follows (within_value p n) (48 + d)) (grown_text (2 ^ 64) n d l (omega arith) (omega arith))
    (λ k g. (ap (λ x. 107 ∷ space ∷ (written_term p ++ (space ∷ x))) g.0 ∙ ap (λ x. 107 ∷ space ∷ x) (sym (append_assoc (written_term p) (space ∷ number_text n) ((48 + d) ∷ []))), (h.0, g.1)))

point_moves : (s : Reading) → Ranged s → IfSome (step s Class.Point) (Follows s point)
point_moves start h = tt
point_moves (named c) h = tt
point_moves (within_term o stem None) h = tt
point_moves (within_term o stem (Some n)) h = (
  ap (λ x. place_text o ++ x) (append-nil (written_term (closed stem n) ++ (point ∷ [])) ∙ ap (λ x. x ++ (point ∷ [])) (closed_text stem n)) ∙ sym (append_assoc (place_text o) (stem_text stem ++ decimal n) (point ∷ [])),
  (h.0, closed_sized stem n h.1 h.2, tt),
)
point_moves (within_value p n) h = tt

space_moves : (s : Reading) → Ranged s → IfSome (step s Class.Space) (Follows s space)
space_moves start h = tt
space_moves (named Call.Declare) h = tt
space_moves (named Call.List) h = tt
space_moves (named Call.Value) h = (refl, (tt, tt, tt))
space_moves (named Call.Is) h = (refl, (tt, tt, tt))
space_moves (named (Call.Relate r)) h = (refl, (tt, tt, tt))
space_moves (within_term Place.Value stem None) h = tt
space_moves (within_term Place.Is stem None) h = tt
space_moves (within_term (Place.Left r) stem None) h = tt
space_moves (within_term (Place.Right r p) stem None) h = tt
space_moves (within_term Place.Value stem (Some n)) h = tt
space_moves (within_term Place.Is stem (Some n)) h = (ap (λ x. 107 ∷ space ∷ (x ++ (space ∷ []))) (closed_text stem n), (closed_sized stem n h.1 h.2, tt))
space_moves (within_term (Place.Left r) stem (Some n)) h =
    (append-nil (place_text (Place.Right r (closed stem n))) ∙ ap (λ x. relation_letter r ∷ space ∷ (x ++ (space ∷ []))) (closed_text stem n), (closed_sized stem n h.1 h.2, tt, tt))
space_moves (within_term (Place.Right r p) stem (Some n)) h = tt
space_moves (within_value p n) h = tt

pub moves : (s : Reading) (k : Class) (b : ℕ) → Classed b k → Ranged s → IfSome (step s k) (Follows s b)
moves s (Class.Digit d) b e h = subst (λ x. IfSome (step s (Class.Digit d)) (Follows s x)) (sym e.1) (digit_moves s d e.0 h)
moves s Class.Point b e h = subst (λ x. IfSome (step s Class.Point) (Follows s x)) (sym e) (point_moves s h)
moves s Class.Space b e h = subst (λ x. IfSome (step s Class.Space) (Follows s x)) (sym e) (space_moves s h)
moves start Class.Other b e h = tt
moves (named c) Class.Other b e h = tt
moves (within_term o stem n) Class.Other b e h = tt
moves (within_value p n) Class.Other b e h = tt
moves start (Class.Letter c) b e h = (ap (λ x. x ∷ []) (sym e), tt)
moves (named c) (Class.Letter l) b e h = tt
moves (within_term o stem n) (Class.Letter l) b e h = tt
moves (within_value p n) (Class.Letter l) b e h = tt

-- a beginning of a good beginning is good
pub good_before : (front more : List ℕ) → Good (front ++ more) → Good front
good_before front more (c, rest, w) = (c, more ++ rest, (w.0, sym (append_assoc front more rest) ∙ w.1))

good_back : (s s' : Reading) (b : ℕ) → Follows s b s' → Good (text s') → Good (text s)
good_back s s' b m g = good_before (text s) (b ∷ []) (subst Good m.0 g)

-- what a reading says at the end of a line is what the line writes
pub said : (s : Reading) → Ranged s → IfSome (command s) (λ c. Writes c (text s))
said start h = tt
said (named Call.Declare) h = (tt, refl)
said (named Call.List) h = (tt, refl)
said (named Call.Value) h = tt
said (named Call.Is) h = tt
said (named (Call.Relate r)) h = tt
said (within_term Place.Value stem None) h = tt
said (within_term Place.Is stem None) h = tt
said (within_term (Place.Left r) stem None) h = tt
said (within_term (Place.Right r p) stem None) h = tt
said (within_term Place.Value stem (Some n)) h = (closed_sized stem n h.1 h.2, ap (λ x. 119 ∷ space ∷ x) (sym (closed_text stem n)))
said (within_term Place.Is stem (Some n)) h = tt
said (within_term (Place.Left r) stem (Some n)) h = tt
said (within_term (Place.Right r p) stem (Some n)) h = pair r h.0 (closed_sized stem n h.1 h.2) (ap (λ x. place_text (Place.Right r p) ++ x) (sym (closed_text stem n)) ∙ ap (λ x. relation_letter r ∷ space ∷ x) (append_assoc (written_term p) (space ∷ []) (written_term (closed stem n))))
  where
    pair : (r : Relation) {line : List ℕ} {q : Term} → Sized p → Sized q → line ≡ relation_letter r ∷ space ∷ (written_term p ++ (space ∷ written_term q)) → Writes (related r p q) line
    pair Relation.Equals sp sq e = ((sp, sq), e)
    pair Relation.Apart sp sq e = ((sp, sq), e)
    pair Relation.Same sp sq e = ((sp, sq), e)
said (within_value p None) h = tt
said (within_value p (Some v)) h = (h, refl)

good_said : (s : Reading) (c : Command) → command s ≡ Some c → Ranged s → Good (text s)
good_said s c e h =
    let w : Writes c (text s) = subst (λ o. IfSome o (λ d. Writes d (text s))) e (said s h) in
    (c, [], (w.0, append-nil (text s) ∙ w.1))

-- every reading has a text with which some line begins
good_value : (p : Term) (n : Option ℕ) → Sized p → Below (2 ^ 64) n → Good (text (within_value p n))
good_value p (Some v) sp l = good_said (within_value p (Some v)) _ refl (sp, l)
good_value p None sp l =
    good_back (within_value p None) (within_value p (Some 0)) 48 (digit_moves (within_value p None) 0 (omega arith) (sp, tt)) (good_said (within_value p (Some 0)) _ refl (sp, omega arith))

good_right : (r : Relation) (p : Term) (stem : Option Term) (n : ℕ) → Sized p → SizedStem stem → n < 2 ^ 16 → Good (text (within_term (Place.Right r p) stem (Some n)))
good_right r p stem n sp ss l = good_said (within_term (Place.Right r p) stem (Some n)) _ refl (sp, ss, l)

good_digit : (o : Place) (stem : Option Term) → SizedPlace o → SizedStem stem → Good (text (within_term o stem (Some 0))) → Good (text (within_term o stem None))
good_digit o stem so ss g = good_back (within_term o stem None) (within_term o stem (Some 0)) 48 (digit_moves (within_term o stem None) 0 (omega arith) (so, ss, tt)) g

good_term : (o : Place) (stem : Option Term) (n : ℕ) → SizedPlace o → SizedStem stem → n < 2 ^ 16 → Good (text (within_term o stem (Some n)))
good_term Place.Value stem n so ss l = good_said (within_term Place.Value stem (Some n)) _ refl (so, ss, l)
good_term Place.Is stem n so ss l =
    let t = closed stem n in
    good_back (within_term Place.Is stem (Some n)) (within_value t None) space (space_moves (within_term Place.Is stem (Some n)) (so, ss, l)) (good_value t None (closed_sized stem n ss l) tt)
good_term (Place.Left r) stem n so ss l =
    let t = closed stem n in
    let st = closed_sized stem n ss l in
    good_back (within_term (Place.Left r) stem (Some n)) (within_term (Place.Right r t) None None) space (space_moves (within_term (Place.Left r) stem (Some n)) (so, ss, l)) (good_digit (Place.Right r t) None st tt (good_right r t None 0 st tt (omega arith)))
good_term (Place.Right r p) stem n so ss l = good_right r p stem n so ss l

good_operand : (o : Place) → SizedPlace o → Good (text (within_term o None None))
good_operand o so = good_digit o None so tt (good_term o None 0 so tt (omega arith))

pub good_text : (s : Reading) → Ranged s → Good (text s)
good_text start h = good_before [] (118 ∷ []) (good_said (named Call.Declare) _ refl tt)
good_text (named Call.Declare) h = good_said (named Call.Declare) _ refl tt
good_text (named Call.List) h = good_said (named Call.List) _ refl tt
good_text (named Call.Value) h = good_back (named Call.Value) (within_term Place.Value None None) space (space_moves (named Call.Value) tt) (good_operand Place.Value tt)
good_text (named Call.Is) h = good_back (named Call.Is) (within_term Place.Is None None) space (space_moves (named Call.Is) tt) (good_operand Place.Is tt)
good_text (named (Call.Relate r)) h = good_back (named (Call.Relate r)) (within_term (Place.Left r) None None) space (space_moves (named (Call.Relate r)) tt) (good_operand (Place.Left r) tt)
good_text (within_term o stem None) h = good_digit o stem h.0 h.1 (good_term o stem 0 h.0 h.1 (omega arith))
good_text (within_term o stem (Some n)) h = good_term o stem n h.0 h.1 h.2
good_text (within_value p n) h = good_value p n h.0 h.1

-- where the machine stops, no line goes on
pub stops : (s : Reading) (k : Class) (b : ℕ) → Classed b k → Ranged s → step s k ≡ None → Good (text s ++ (b ∷ [])) → ⊥
stops s k b e h stuck (c, rest, w) =
    let a = accepts c ((text s ++ (b ∷ [])) ++ rest) w in
    let here : run (Some start) ((text s ++ (b ∷ [])) ++ rest) ≡ None =
    ap (run (Some start)) (append_assoc (text s) (b ∷ []) rest) ∙ run_text s h (b ∷ rest) ∙ ap (λ c. run (step s c) rest) (class_of_classed b k e) ∙ ap (λ o. run o rest) stuck in
    let z : ◌≡◌ {A = ℕ} 0 1 = cc in
    omega arith

pub steps : (s : Reading) (k : Class) (b : ℕ) → Classed b k → Ranged s → MatchOption (step s k) (Good (text s ++ (b ∷ [])) → ⊥) (Follows s b)
steps s k b e h = go (step s k) refl (moves s k b e h)
  where
    go : (o : Option Reading) → step s k ≡ o → IfSome o (Follows s b) → MatchOption o (Good (text s ++ (b ∷ [])) → ⊥) (Follows s b)
    go None stuck m = stops s k b e h stuck
    go (Some s') gone m = m

-- a reading that says nothing at the end of a line is of no line
pub ends : (s : Reading) → Ranged s → MatchOption (command s) ((c : Command) → Writes c (text s) → ⊥) (λ c. Writes c (text s))
ends s h = go (command s) refl (said s h)
  where
    go : (o : Option Command) → command s ≡ o → IfSome o (λ c. Writes c (text s)) → MatchOption o ((c : Command) → Writes c (text s) → ⊥) (λ c. Writes c (text s))
    go None silent m = λ c w.
        let a = accepts c (text s) w in
        let here : run (Some start) (text s) ≡ Some s = ap (run (Some start)) (sym (append-nil (text s))) ∙ run_text s h [] in
        let same_end : a.at ≡ s = cc in
        let says : command s ≡ Some c = ap command (sym same_end) ∙ a.says in
        let z : ◌≡◌ {A = ℕ} 0 1 = cc in
        omega arith
    go (Some c) says m = m

-- each attribute took two bytes at least
path_bytes : (path : List ℕ) → AllByRecursion (λ a. a < 2 ^ 16) path → 2 * length path ≤ length (written_path path)
path_bytes [] h = omega arith
path_bytes (a ∷ path) h = omega (arith, length-append (decimal a) (written_path path), decimal_nonempty a (omega (arith, h.0)), path_bytes path h.1)

pub stem_bytes : (o : Place) (t : Term) (n : Option ℕ) → Sized t → 2 * length t.path + 2 ≤ length (text (within_term o (Some t) n))
unfolding written_term
stem_bytes o t n h =
    omega (arith, length-append (place_text o) (stem_text (Some t) ++ number_text n), length-append (stem_text (Some t)) (number_text n), length-append (written_term t) (point ∷ []), length-append (decimal t.var) (written_path t.path), path_bytes t.path h.path, decimal_nonempty t.var (omega (arith, h.var)))
