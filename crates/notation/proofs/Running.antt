-- The machine comes from the start to each reading by just the reading's text, and over each line to the line's command.
use Rattle.std.proofs.Common.{◌≡◌, ℕ, ◌+◌, ◌*◌, ◌/◌, ◌%◌, ◌^◌, ◌<◌, ◌≤◌, List, [], ◌∷◌, ◌++◌, Some, None, decimal, Option, sym, refl, ap, ◌∙◌, append_assoc, append-nil, arith}
use Rattle.std.specs.Option.{option_map}
use Rattle.std.specs.List.{AllByRecursion}
use Rattle.std.proofs.lemmas.Fmt.{decimal_by_steps}
use Rattle.features.specs.Terms.{Term}
use Rattle.notation.specs.Notation.{Command, declare, equals, is, apart, same, value, list, space, point, written, written_path, written_term, Sized, InRange, Writes, OneCommand}
use Rattle.notation.specs.Readings.{Reading, start, named, within_term, within_value, closed, text, place_text, stem_text, number_text, Below, SizedStem, SizedPlace, Ranged, related}
use Rattle.notation.specs.declared.state.Place.{Place}
use Rattle.notation.specs.declared.class.Relation.{Relation}
use Rattle.notation.specs.declared.class.Call.{Call}
use Rattle.notation.specs.declared.class.Class.{Class}
use Rattle.notation.proofs.Machine.{class_of, class_digit, grown, grown_some, step, run, command}

-- a reading that waits for a number takes just the digits of the number
run_number : (make : Option ℕ → Reading) (limit : ℕ) → ((m : Option ℕ) (d : ℕ) → step (make m) (Class.Digit d) ≡ option_map (λ n. make (Some n)) (grown limit m d)) → limit ≤ 2 ^ 64
    → (n : ℕ) → n < limit → (rest : List ℕ) → run (Some (make None)) (decimal n ++ rest) ≡ run (Some (make (Some n))) rest
run_number make limit digit-step small n below rest = decimal_by_steps P one more n (omega arith) below rest
  where
    P : ℕ → List ℕ → Type 0
    P m ds = m < limit → (rest : List ℕ) → run (Some (make None)) (ds ++ rest) ≡ run (Some (make (Some m))) rest

    one : (m : ℕ) → m < 10 → P m ((48 + m) ∷ [])
    one m l lt rest = ap (λ k. run (step (make None) k) rest) (class_digit m l) ∙ ap (λ o. run o rest) (digit-step None m)

    more : (m : ℕ) (ds : List ℕ) → 10 ≤ m → P (m / 10) ds → P m (ds ++ ((48 + m % 10) ∷ []))
    more m ds l h lt rest =
        let whole : m / 10 * 10 + m % 10 ≡ m = omega arith in
        let grows : grown limit (Some (m / 10)) (m % 10) ≡ Some m = grown_some limit (m / 10) (m % 10) (omega arith) (omega arith) ∙ ap Some whole in
        ap (run (Some (make None))) (append_assoc ds ((48 + m % 10) ∷ []) rest) ∙ h (omega arith) ((48 + m % 10) ∷ rest)
        ∙ ap (λ k. run (step (make (Some (m / 10))) k) rest) (class_digit (m % 10) (omega arith))
        ∙ ap (λ o. run o rest) (digit-step (Some (m / 10)) (m % 10) ∙ ap (option_map (λ n. make (Some n))) grows)

run_within_term : (o : Place) (stem : Option Term) (n : ℕ) → n < 2 ^ 16 → (rest : List ℕ) → run (Some (within_term o stem None)) (decimal n ++ rest) ≡ run (Some (within_term o stem (Some n))) rest
run_within_term o stem = run_number (within_term o stem) (2 ^ 16) (λ m d. refl) (omega arith)

run_within_value : (p : Term) (n : ℕ) → n < 2 ^ 64 → (rest : List ℕ) → run (Some (within_value p None)) (decimal n ++ rest) ≡ run (Some (within_value p (Some n))) rest
run_within_value p = run_number (within_value p) (2 ^ 64) (λ m d. refl) (omega arith)

extended : Term → List ℕ → Term
extended t path = record { var = t.var; path = t.path ++ path }

-- after a number in a term: a point and a number for each attribute that follows
record Ends (o : Place) (from : Reading) (bytes rest : List ℕ) (t : Term) : Type 0 where
  stem : Option Term
  last : ℕ
  whole : closed stem last ≡ t
  runs : run (Some from) (bytes ++ rest) ≡ run (Some (within_term o stem (Some last))) rest

run_path : (o : Place) (path : List ℕ) → AllByRecursion (λ a. a < 2 ^ 16) path → (stem : Option Term) (n : ℕ) (rest : List ℕ) → Ends o (within_term o stem (Some n)) (written_path path) rest (extended (closed stem n) path)
unfolding extended
run_path o [] h stem n rest =
    let t = closed stem n in
    record { stem = stem; last = n; whole = λ i. record { var = t.var; path = sym (append-nil t.path) i }; runs = refl }
run_path o (a ∷ path) h stem n rest =
    let t = closed stem n in
    let later = run_path o path h.1 (Some t) a rest in
    record {
      stem = later.stem;
      last = later.last;
      whole = later.whole ∙ (λ i. record { var = t.var; path = append_assoc t.path (a ∷ []) path i });
      runs = ap (run (Some (within_term o (Some t) None))) (append_assoc (decimal a) (written_path path) rest) ∙ run_within_term o (Some t) a h.0 (written_path path ++ rest) ∙ later.runs;
    }

run_term : (o : Place) (t : Term) → Sized t → (rest : List ℕ) → Ends o (within_term o None None) (written_term t) rest t
unfolding extended written_term
run_term o t h rest =
    let later = run_path o t.path h.path None t.var rest in
    record {
      stem = later.stem;
      last = later.last;
      whole = later.whole;
      runs = ap (run (Some (within_term o None None))) (append_assoc (decimal t.var) (written_path t.path) rest) ∙ run_within_term o None t.var h.var (written_path t.path ++ rest) ∙ later.runs;
    }

-- a term and the byte after it
run_term_then : (o : Place) (t : Term) → Sized t → (b : ℕ) (rest : List ℕ) (next : Term → Option Reading) → ((stem : Option Term) (n : ℕ) → step (within_term o stem (Some n)) (class_of b) ≡ next (closed stem n))
    → run (Some (within_term o None None)) ((written_term t ++ (b ∷ [])) ++ rest) ≡ run (next t) rest
run_term_then o t h b rest next goes =
    let ends = run_term o t h (b ∷ rest) in
    ap (run (Some (within_term o None None))) (append_assoc (written_term t) (b ∷ []) rest) ∙ ends.runs ∙ ap (λ r. run r rest) (goes ends.stem ends.last ∙ ap next ends.whole)

run_left : (r : Relation) (rest : List ℕ) → run (Some start) (place_text (Place.Left r) ++ rest) ≡ run (Some (within_term (Place.Left r) None None)) rest
run_left Relation.Equals rest = refl
run_left Relation.Apart rest = refl
run_left Relation.Same rest = refl

run_operand : (o : Place) → SizedPlace o → (rest : List ℕ) → run (Some start) (place_text o ++ rest) ≡ run (Some (within_term o None None)) rest
run_operand Place.Value h rest = refl
run_operand Place.Is h rest = refl
run_operand (Place.Left r) h rest = run_left r rest
run_operand (Place.Right r p) h rest = run_left r ((written_term p ++ (space ∷ [])) ++ rest) ∙ run_term_then (Place.Left r) p h space rest (λ t. Some (within_term (Place.Right r t) None None)) (λ stem n. refl)

run_stem : (o : Place) (stem : Option Term) → SizedStem stem → (rest : List ℕ) → run (Some (within_term o None None)) (stem_text stem ++ rest) ≡ run (Some (within_term o stem None)) rest
run_stem o None h rest = refl
run_stem o (Some t) h rest = run_term_then o t h point rest (λ u. Some (within_term o (Some u) None)) (λ stem n. refl)

run_digits : (o : Place) (stem : Option Term) (n : Option ℕ) → Below (2 ^ 16) n → (rest : List ℕ) → run (Some (within_term o stem None)) (number_text n ++ rest) ≡ run (Some (within_term o stem n)) rest
run_digits o stem None h rest = refl
run_digits o stem (Some n) h rest = run_within_term o stem n h rest

run_value_digits : (p : Term) (n : Option ℕ) → Below (2 ^ 64) n → (rest : List ℕ) → run (Some (within_value p None)) (number_text n ++ rest) ≡ run (Some (within_value p n)) rest
run_value_digits p None h rest = refl
run_value_digits p (Some n) h rest = run_within_value p n h rest

run_named : (c : Call) (rest : List ℕ) → run (Some start) (text (named c) ++ rest) ≡ run (Some (named c)) rest
run_named Call.Declare rest = refl
run_named Call.List rest = refl
run_named Call.Value rest = refl
run_named Call.Is rest = refl
run_named (Call.Relate Relation.Equals) rest = refl
run_named (Call.Relate Relation.Apart) rest = refl
run_named (Call.Relate Relation.Same) rest = refl

pub run_text : (s : Reading) → Ranged s → (rest : List ℕ) → run (Some start) (text s ++ rest) ≡ run (Some s) rest
run_text start h rest = refl
run_text (named c) h rest = run_named c rest
run_text (within_term o stem n) h rest =
    ap (run (Some start)) (append_assoc (place_text o) (stem_text stem ++ number_text n) rest ∙ ap (λ x. place_text o ++ x) (append_assoc (stem_text stem) (number_text n) rest))
    ∙ run_operand o h.0 (stem_text stem ++ (number_text n ++ rest)) ∙ run_stem o stem h.1 (number_text n ++ rest) ∙ run_digits o stem n h.2 rest
run_text (within_value p n) h rest =
    ap (λ x. run (Some start) (107 ∷ space ∷ x)) (append_assoc (written_term p) (space ∷ number_text n) rest ∙ sym (append_assoc (written_term p) (space ∷ []) (number_text n ++ rest)))
    ∙ run_operand Place.Is tt ((written_term p ++ (space ∷ [])) ++ (number_text n ++ rest))
    ∙ run_term_then Place.Is p h.0 space (number_text n ++ rest) (λ t. Some (within_value t None)) (λ stem m. refl) ∙ run_value_digits p n h.1 rest

-- the machine ends at a reading that says the command
pub record Accepts (line : List ℕ) (c : Command) : Type 0 where
  pub at : Reading
  pub runs : run (Some start) line ≡ Some at
  pub says : command at ≡ Some c

accepts_term : (o : Place) → SizedPlace o → (t : Term) → Sized t → (c : Command) → ((stem : Option Term) (n : ℕ) → closed stem n ≡ t → command (within_term o stem (Some n)) ≡ Some c) → Accepts (place_text o ++ written_term t) c
accepts_term o so t st c says =
    let ends = run_term o t st [] in
    record {
      at = within_term o ends.stem (Some ends.last);
      runs = run_operand o so (written_term t) ∙ ap (run (Some (within_term o None None))) (sym (append-nil (written_term t))) ∙ ends.runs;
      says = says ends.stem ends.last ends.whole;
    }

accepts_pair : (r : Relation) (p q : Term) → Sized p → Sized q → (line : List ℕ) → line ≡ place_text (Place.Left r) ++ (written_term p ++ (space ∷ written_term q)) → Accepts line (related r p q)
accepts_pair r p q sp sq line e =
    let same_line : line ≡ place_text (Place.Right r p) ++ written_term q = e ∙ ap (λ x. place_text (Place.Left r) ++ x) (sym (append_assoc (written_term p) (space ∷ []) (written_term q))) in
    let there = accepts_term (Place.Right r p) sp q sq (related r p q) (λ stem n w. ap (λ t. Some (related r p t)) w) in
    record { at = there.at; runs = ap (run (Some start)) same_line ∙ there.runs; says = there.says }

pub accepts_written : (c : Command) → InRange c → Accepts (written c) c
accepts_written declare h = record { at = named Call.Declare; runs = refl; says = refl }
accepts_written (equals p q) h = accepts_pair Relation.Equals p q h.0 h.1 _ refl
accepts_written (is p v) h = record { at = within_value p (Some v); runs = ap (run (Some start)) (sym (append-nil (written (is p v)))) ∙ run_text (within_value p (Some v)) h []; says = refl }
accepts_written (apart p q) h = accepts_pair Relation.Apart p q h.0 h.1 _ refl
accepts_written (same p q) h = accepts_pair Relation.Same p q h.0 h.1 _ refl
accepts_written (value p) h = accepts_term Place.Value tt p h (value p) (λ stem n w. ap (λ t. Some (value t)) w)
accepts_written list h = record { at = named Call.List; runs = refl; says = refl }

pub accepts : (c : Command) (line : List ℕ) → Writes c line → Accepts line c
accepts c line w = let there = accepts_written c w.0 in record { at = there.at; runs = ap (run (Some start)) w.1 ∙ there.runs; says = there.says }

pub one_command : OneCommand
one_command c d line wc wd =
    let a = accepts c line wc in
    let b = accepts d line wd in
    let same_end : a.at ≡ b.at = cc (a.runs, b.runs) in
    let same_says : command a.at ≡ command b.at = ap command same_end in
    cc (a.says, same_says)
