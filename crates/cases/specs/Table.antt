-- Marked cases as a table: calls of a session with the answers laid down for them, and a filling of types with its refusal.
use Rattle.std.specs.Prelude.{ℕ, ◌≤◌, false, List, [], ◌∷◌, ◌++◌, length, drop, All, Some, Ok, Err}
use Rattle.kinds.specs.declared.types.links.Link.{Link}
use Rattle.kinds.specs.declared.types.misfit.Misfit.{Misfit}
use Rattle.kinds.specs.declared.types.misfit.Misfit.TheVariants.{NoGreatest}
use Rattle.kinds.specs.Meaning.{Meaning}
use Rattle.kinds.specs.Atoms.{atoms}
use Rattle.kinds.specs.ValueSets.{value_sets}
use Rattle.kinds.specs.Types.{Refused}
use Rattle.features.specs.Terms.{Statement, equals, is, apart, only, ◌▸◌}
use Rattle.answers.specs.declared.refusal.Refusal.{Refusal}
use Rattle.answers.specs.declared.refusal.Refusal.TheVariants.{ValueClash, LeafClash, ApartClash}
use Rattle.answers.specs.Answers.{declare, state, ask_same, ask_value, list, declares, states, says, gives, lists}
use Rattle.answers.specs.Runs.{Exchange, asked, AllRight}

-- the kinds of value that a session of the table is over
pub data Kind : Type 0 where
  over_atoms : Kind
  over_value_sets : Kind

abbrev pub meaning_of : Kind → Meaning
meaning_of over_atoms = atoms
meaning_of over_value_sets = value_sets

-- a session's calls with their answers, from a new session on; or so many types, links and marks with the ground of their refusal
pub data Row : Type 0 where
  session : Kind → List Exchange → Row
  filling : ℕ → List Link → ℕ → Misfit → Row

-- every answer of the row is the one laid down
abbrev pub AsLaidDown : Row → Type 0
AsLaidDown (session kind exchanges) = AllRight (meaning_of kind) 0 [] exchanges
AsLaidDown (filling count links marks misfit) = Refused count links marks misfit

-- variable x declared
abbrev pub declared : ℕ → Exchange
declared x = asked declare (declares (Ok x))

-- a statement accepted, or refused with these attributes at the start of its trail; `room` is what the trail holds before
abbrev pub accepted : List ℕ → Statement → Exchange
accepted room s = asked (state s room) (states (Ok tt) room)

abbrev pub refused : List ℕ → Statement → Refusal → List ℕ → Exchange
refused room s r attributes = asked (state s room) (states (Err r) (attributes ++ drop (length attributes) room))

-- a listing of these bytes into a buffer that holds `room` before
abbrev pub written_out : List ℕ → List ℕ → Exchange
written_out room bytes = asked (list room) (lists (Ok (length bytes)) (bytes ++ drop (length bytes) room))

-- a new session lists no node and no variable
abbrev pub new_session : List ℕ → List Exchange
new_session room = written_out room (0 ∷ 0 ∷ 0 ∷ 0 ∷ 0 ∷ 0 ∷ 0 ∷ 0 ∷ []) ∷ []

-- an attribute may lead back to the node that has it: that node, the variable's node, and the three numbers at the end
abbrev pub looped : List ℕ → List Exchange
looped room =
    declared 0
    ∷ accepted room (equals (only 0 ▸ 1) (only 0))
    ∷ written_out room ((0 ∷ 0 ∷ 0 ∷ 0 ∷ 0 ∷ 0 ∷ 0 ∷ 0 ∷ 1 ∷ 1 ∷ 0 ∷ 0 ∷ []) ++ (0 ∷ 0 ∷ []) ++ (1 ∷ 0 ∷ 1 ∷ 0 ∷ 12 ∷ 0 ∷ 0 ∷ 0 ∷ []))
    ∷ []

-- two nodes with one atom are two
abbrev pub equal_values : List ℕ → List Exchange
equal_values room =
    declared 0
    ∷ declared 1
    ∷ accepted room (is (only 0) 5)
    ∷ accepted room (is (only 1) 5)
    ∷ asked (ask_same (only 0) (only 1)) (says (Ok false))
    ∷ []

-- a leaf has no attribute: refusal 8, at the leaf
abbrev pub leaf_with_attribute : List ℕ → List Exchange
leaf_with_attribute room =
    declared 0
    ∷ accepted room (is (only 0) 5)
    ∷ refused room (is (only 0 ▸ 1) 6) (LeafClash 0 0) []
    ∷ []

-- a term may be kept apart from itself as long as it denotes nothing: then refusal 9, of the first apart
abbrev pub apart_from_itself : List ℕ → List Exchange
apart_from_itself room =
    declared 0
    ∷ accepted room (apart (only 0 ▸ 1) (only 0 ▸ 1))
    ∷ refused room (is (only 0 ▸ 1) 5) (ApartClash 0) []
    ∷ []

-- a clash is named by the node at fault, which may lie beneath those that an equation names: refusal 7, at 0.1
abbrev pub clash_beneath : List ℕ → List Exchange
clash_beneath room =
    declared 0
    ∷ declared 1
    ∷ accepted room (is (only 0 ▸ 1) 5)
    ∷ accepted room (is (only 1 ▸ 1) 6)
    ∷ refused room (equals (only 0) (only 1)) (ValueClash 0 1) (1 ∷ [])
    ∷ []

-- value sets meet in what they share, and refusal 7 is for those that share nothing
abbrev pub shared_sets : List ℕ → List Exchange
shared_sets room =
    declared 0
    ∷ accepted room (is (only 0) 3)
    ∷ accepted room (is (only 0) 6)
    ∷ asked (ask_value (only 0)) (gives (Ok (Some 2)))
    ∷ refused room (is (only 0) 4) (ValueClash 0 0) []
    ∷ []

-- types 1 and 2 have 3 and 4 in common, and no greatest common type: refusal 26, of 1 and 2
abbrev pub crossed_links : List Link
crossed_links =
    record { subtype = 1; supertype = 0 }
    ∷ record { subtype = 2; supertype = 0 }
    ∷ record { subtype = 3; supertype = 1 }
    ∷ record { subtype = 3; supertype = 2 }
    ∷ record { subtype = 4; supertype = 1 }
    ∷ record { subtype = 4; supertype = 2 }
    ∷ []

abbrev pub table : List ℕ → List Row
table room =
    session over_atoms (new_session room)
    ∷ session over_atoms (looped room)
    ∷ session over_atoms (equal_values room)
    ∷ session over_atoms (leaf_with_attribute room)
    ∷ session over_atoms (apart_from_itself room)
    ∷ session over_atoms (clash_beneath room)
    ∷ session over_value_sets (shared_sets room)
    ∷ filling 5 crossed_links 0 (NoGreatest 1 2)
    ∷ []

-- Every row of the table is as laid down, whatever trails and buffers with room enough hold. A call has one right answer at most,
-- so a session that answers right answers the calls of a row just so.
abbrev pub MarkedCases : Type 0
MarkedCases = (room : List ℕ) → 272 ≤ length room → All AsLaidDown (table room)
