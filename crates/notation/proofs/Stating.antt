-- What the program's states say, from what the machine does.
use Rattle.std.proofs.Common.{◌≡◌, ℕ, ◌+◌, ◌<◌, ◌≤◌, List, [], ◌∷◌, ◌++◌, length, get_or, take, drop, IfSome, Some, None, Err, Result, Option, sym, ap, ◌∙◌, subst, append-nil, arith, length-append, refl, MatchOption}
use Rattle.std.specs.Option.{SomeIff, ok_or, option_map, option_and_then}
use Rattle.std.proofs.lemmas.List.{take_more, take-take, take-append-drop, take_all}
use Rattle.features.specs.Terms.{Term}
use Rattle.notation.specs.Notation.{Good, point, space}
use Rattle.notation.specs.Notation as notation
use Rattle.notation.specs.Classes.{Classed}
use Rattle.notation.specs.Readings.{Reading, text, within_term, within_value, closed, ended, SizedStem, Ranged, Follows, Admits, appended}
use Rattle.notation.specs.declared.state.Place.{Place}
use Rattle.notation.specs.Views.{operand_reading, assignment_reading, reading_of, Steps, Says}
use Rattle.notation.specs.Reads.{LongestGood, Unwritten, Reads}
use Rattle.notation.specs.declared.malformed.Malformed.{Malformed}
use Rattle.notation.specs.declared.malformed.Malformed.TheVariants.{Unfit}
use Rattle.notation.specs.declared.class.Class.{Class}
use Rattle.notation.specs.declared.command.Command.{Command}
use Rattle.notation.specs.declared.state.Operand.{Operand}
use Rattle.notation.specs.declared.state.Assignment.{Assignment}
use Rattle.notation.specs.declared.state.State.{State}
use Rattle.notation.proofs.Machine.{grown, grown_some, grown_none, next, step, command}
use Rattle.notation.proofs.Stepping.{moves, said, stops, ends, stem_bytes, good_text, good_before}

-- a byte that the machine takes
pub goes_on : (s s' : Reading) (k : Class) (b : ℕ) → Classed b k → Ranged s → step s k ≡ Some s' → Follows s b s'
goes_on s s' k b e h q = subst (λ o. IfSome o (Follows s b)) q (moves s k b e h)

-- a reading that says a command, and one that says none
pub says : (s : Reading) (c : notation.Command) → Ranged s → command s ≡ Some c → notation.Writes c (text s)
says s c h q = subst (λ o. IfSome o (λ d. notation.Writes d (text s))) q (said s h)

pub silent : (s : Reading) → Ranged s → command s ≡ None → Unwritten (text s)
silent s h q = subst (λ o. MatchOption o (Unwritten (text s)) (λ c. notation.Writes c (text s))) q (ends s h)

-- what the program answers for a digit more is what the machine does
pub grown_checked : (greatest : ℕ) (n : Option ℕ) (d : ℕ) (r : Option ℕ) → SomeIff r (Admits greatest n d) (appended n d) → r ≡ grown (greatest + 1) n d
grown_checked greatest None d None h = absurd (h tt)
grown_checked greatest None d (Some k) h = ap Some h.1
grown_checked greatest (Some n) d None h = sym (grown_none (greatest + 1) n d (λ some below. h (some, omega arith)))
grown_checked greatest (Some n) d (Some k) h = ap Some h.1 ∙ sym (grown_some (greatest + 1) n d h.0.0 (omega (arith, h.0.1)))

pub stem_room : (o : Place) (stem : Option Term) (n : Option ℕ) → SizedStem stem → length (text (within_term o stem n)) ≤ 120 → IfSome stem (λ t. length t.path < 60)
stem_room o None n h l = tt
stem_room o (Some t) n h l = omega (arith, stem_bytes o t n h)

-- the numbers of every state are within their limits
pub state_ranged : (s : State) → Ranged (reading_of s)
state_ranged State.Start = tt
state_ranged (State.Named c) = tt
state_ranged (State.Term o) = o.ranged
state_ranged (State.Number a) = a.ranged

-- one byte more still leaves a short text
pub longer : (s s' : Reading) (b : ℕ) → Follows s b s' → length (text s) < 120 → length (text s') ≤ 120
longer s s' b f l = omega (arith, ap length f.0, length-append (text s) (b ∷ []))

-- what becomes of an operand, by the term that ends with it where a number is the term's last
pub at_term : {B : Type 0} (o : Operand) (t : Option Term) → t ≡ option_map (closed o.stem) o.number → (f : Term → Option B) → option_and_then (λ n. f (closed o.stem n)) o.number ≡ option_and_then f t
at_term {B} o t e f = by_number o.number t e
  where
    by_number : (n : Option ℕ) (t : Option Term) → t ≡ option_map (closed o.stem) n → option_and_then {U = B} (λ k. f (closed o.stem k)) n ≡ option_and_then f t
    by_number None t e = ap (option_and_then f) (sym e)
    by_number (Some n) t e = ap (option_and_then f) (sym e)

-- an operand whose term ends here, after a point, after a space, and at the end of a line
module _ (o : Operand) (t : Term) (e : ◌≡◌ {A = Option Term} (Some t) (option_map (closed o.stem) o.number)) where
  pub point_follows : Follows (operand_reading o) point (within_term o.place (Some t) None)
  point_follows = goes_on (operand_reading o) _ Class.Point point refl o.ranged (at_term o (Some t) e (λ t. Some (within_term o.place (Some t) None)))

  pub space_follows : (s : Reading) → next o.place t ≡ Some s → Follows (operand_reading o) space s
  space_follows s q = goes_on (operand_reading o) s Class.Space space refl o.ranged (at_term o (Some t) e (next o.place) ∙ q)

  pub space_stops : next o.place t ≡ None → Good (text (operand_reading o) ++ (space ∷ [])) → ⊥
  space_stops q = stops (operand_reading o) Class.Space space refl o.ranged (at_term o (Some t) e (next o.place) ∙ q)

  pub end_says : (c : notation.Command) → ended o.place t ≡ Some c → notation.Writes c (text (operand_reading o))
  end_says c q = says (operand_reading o) c o.ranged (at_term o (Some t) e (ended o.place) ∙ q)

  pub end_silent : ended o.place t ≡ None → Unwritten (text (operand_reading o))
  end_silent q = silent (operand_reading o) o.ranged (at_term o (Some t) e (ended o.place) ∙ q)

-- an operand without a number
module _ (o : Operand) (e : ◌≡◌ {A = Option Term} None (option_map (closed o.stem) o.number)) where
  pub point_stops : Good (text (operand_reading o) ++ (point ∷ [])) → ⊥
  point_stops = stops (operand_reading o) Class.Point point refl o.ranged (at_term o None e (λ t. Some (within_term o.place (Some t) None)))

  pub early_space_stops : Good (text (operand_reading o) ++ (space ∷ [])) → ⊥
  early_space_stops = stops (operand_reading o) Class.Space space refl o.ranged (at_term o None e (next o.place))

  pub early_end_silent : Unwritten (text (operand_reading o))
  early_end_silent = silent (operand_reading o) o.ranged (at_term o None e (ended o.place))

-- a digit more
module _ (o : Operand) (d : ℕ) (l : d < 10) where
  pub name_follows : (k : ℕ) → SomeIff (Some k) (Admits 65535 o.number d) (appended o.number d) → Follows (operand_reading o) (48 + d) (within_term o.place o.stem (Some k))
  name_follows k h = goes_on (operand_reading o) _ (Class.Digit d) (48 + d) (l, refl) o.ranged (ap (option_map (λ n. within_term o.place o.stem (Some n))) (sym (grown_checked 65535 o.number d (Some k) h)))

  pub name_stops : SomeIff None (Admits 65535 o.number d) (appended o.number d) → Good (text (operand_reading o) ++ ((48 + d) ∷ [])) → ⊥
  name_stops h = stops (operand_reading o) (Class.Digit d) (48 + d) (l, refl) o.ranged (ap (option_map (λ n. within_term o.place o.stem (Some n))) (sym (grown_checked 65535 o.number d None h)))

module _ (a : Assignment) (d : ℕ) (l : d < 10) where
  pub value_follows : (k : ℕ) → SomeIff (Some k) (Admits 18446744073709551615 a.number d) (appended a.number d) → Follows (assignment_reading a) (48 + d) (within_value a.term (Some k))
  value_follows k h = goes_on (assignment_reading a) _ (Class.Digit d) (48 + d) (l, refl) a.ranged (ap (option_map (λ n. within_value a.term (Some n))) (sym (grown_checked 18446744073709551615 a.number d (Some k) h)))

  pub value_stops : SomeIff None (Admits 18446744073709551615 a.number d) (appended a.number d) → Good (text (assignment_reading a) ++ ((48 + d) ∷ [])) → ⊥
  value_stops h = stops (assignment_reading a) (Class.Digit d) (48 + d) (l, refl) a.ranged (ap (option_map (λ n. within_value a.term (Some n))) (sym (grown_checked 18446744073709551615 a.number d None h)))

good_take : (line : List ℕ) (m k : ℕ) → m ≤ k → Good (take k line) → Good (take m line)
good_take line m k l g =
    subst Good (take-take m k line l) (good_before (take m (take k line)) (drop m (take k line)) (subst Good (sym (take-append-drop m (take k line))) g))

good_line : (line : List ℕ) (c : notation.Command) → notation.Writes c line → Good (take (length line) line)
good_line line c w = subst Good (sym (take_all (length line) line (omega arith))) (c, [], (w.0, append-nil line ∙ w.1))

-- a byte that no line has after the text so far
pub unfit_at : (line : List ℕ) (i : ℕ) (s : Reading) (b : ℕ) → i < length line → text s ≡ take i line → Ranged s → b ≡ get_or line i 0 → (Good (text s ++ (b ∷ [])) → ⊥) → Unwritten line × LongestGood line i
unfit_at line i s b l e h at stuck = (
  λ c w. past (good_take line (i + 1) (length line) (omega arith) (good_line line c w)),
  record { within = omega arith; good = subst Good e (good_text s h); longest = λ k a z g. past (good_take line (i + 1) k (omega arith) g) },
)
  where
    past : Good (take (i + 1) line) → ⊥
    past g = stuck (subst Good (take_more line i 0 l ∙ (λ j. sym e j ++ (sym at j ∷ []))) g)

-- the line ends too early
pub unfit_end : (line : List ℕ) (s : Reading) → text s ≡ line → Ranged s → Unwritten (text s) → Unwritten line × LongestGood line (length line)
unfit_end line s e h silent =
    (subst Unwritten e silent, record { within = omega arith; good = subst Good (e ∙ sym (take_all (length line) line (omega arith))) (good_text s h); longest = λ k a z g. absurd (omega arith) })

-- what reading answers where it stops at a byte, and at the end of a line
pub read_stops : {A : Type 0} (line : List ℕ) (i : ℕ) (s : Reading) (b : ℕ) (e : Malformed) (r : Option A) (after : A → Reading) → length line ≤ 120 → i < length line → text s ≡ take i line → Ranged s → b ≡ get_or line i 0
    → Steps s b r after → ◌≡◌ {A = Result A Malformed} (Err e) (ok_or r (Unfit i)) → Reads line (Err e)
read_stops line i s b e None after short l is h at stuck q =
    let same : e ≡ Unfit i = cc in
    subst (λ (x : Malformed). Reads line (Err x)) (sym same) (let unfit = unfit_at line i s b l is h at stuck in (short, unfit.0, unfit.1))
read_stops line i s b e (Some x) after short l is h at goes q =
    let z : ◌≡◌ {A = ℕ} 0 1 = cc in
    absurd (omega arith)

pub read_ends : (line : List ℕ) (s : Reading) (r : Option Command) → length line ≤ 120 → text s ≡ line → Ranged s → Says s r → Reads line (ok_or r (Unfit (length line)))
read_ends line s None short is h silent = let unfit = unfit_end line s is h silent in (short, unfit.0, unfit.1)
read_ends line s (Some c) short is h says = (short, (says.0, sym is ∙ says.1))
