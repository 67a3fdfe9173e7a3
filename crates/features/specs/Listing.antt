-- The bytes of a graph.
use Rattle.std.proofs.Math.Option.{Option, some, none}
use Rattle.std.specs.Prelude.{ℕ, zero, suc, ◌+◌, ◌/◌, ◌%◌, List, [], ◌∷◌, ◌++◌, length}
use Rattle.features.specs.Graphs.{Graph}

-- the k lowest bytes of n, the lowest first
abbrev pub little : ℕ → ℕ → List ℕ
little zero n = []
little (suc k) n = (n % 256) ∷ little k (n / 256)

abbrev pub entry : ℕ → Option ℕ → List ℕ
entry a none = []
entry a (some t) = a ∷ little 2 t

-- f at the k numbers from a on, one after another
abbrev pub along : (ℕ → List ℕ) → ℕ → ℕ → List ℕ
along f a zero = []
along f a (suc k) = f a ++ along f (suc a) k

abbrev pub one_if : {A : Type 0} → Option A → ℕ
one_if none = 0
one_if (some t) = 1

abbrev pub count : (ℕ → ℕ) → ℕ → ℕ → ℕ
count f a zero = 0
count f a (suc k) = f a + count f (suc a) k

abbrev pub record_of : Graph → ℕ → List ℕ
record_of g n = little 8 (g.value n) ++ (count (λ a. one_if (g.edge n a)) 0 32 ∷ []) ++ along (λ a. entry a (g.edge n a)) 0 32

abbrev pub written : Graph → List ℕ
written g =
    let records : List ℕ = along (record_of g) 0 g.nodes in
    records ++ along (λ x. little 2 (g.root x)) 0 g.vars ++ little 2 g.nodes ++ little 2 g.vars ++ little 4 (length records)
