-- Terms and statements.
use Rattle.std.specs.Prelude.{ℕ, List, [], ◌∷◌, ◌++◌}
use mathlib.Core.List.{Memᴰ}

-- a variable followed by attributes
pub record Term : Type 0 where
  pub var : ℕ
  pub path : List ℕ

abbrev pub only : ℕ → Term
only x = record { var = x; path = [] }

-- one attribute more
abbrev pub ◌▸◌ : Term → ℕ → Term
t ▸ a = record { var = t.var; path = t.path ++ (a ∷ []) }

infixl 80 ◌▸◌
pub data Statement : Type 0 where
  equals : Term → Term → Statement
  is : Term → ℕ → Statement
  apart : Term → Term → Statement

abbrev pub Within : List Statement → List Statement → Type 0
Within said said' = (s : Statement) → Memᴰ s said → Memᴰ s said'

-- the same statements, in whatever order and however often
pub record SameMembers (said said' : List Statement) : Type 0 where
  pub to : Within said said'
  pub from : Within said' said
