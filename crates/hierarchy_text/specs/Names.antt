-- The names of the types that are written.
use Rattle.std.specs.Prelude.{ℕ, List, string_bytes}
use Rattle.hierarchy_text.specs.declared.entry.Entry.{Entry}

-- the name of a type, by its bytes
abbrev pub name_of : Entry → List ℕ
name_of e = string_bytes e.name
