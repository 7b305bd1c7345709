-- What A and C say in the rows of modules, procedures, fields, locals and results.
use Rattle.std.specs.Prelude.{ℕ, Bool, eqb}
use Rattle.laws.specs.Lists.{member}
use Rattle.table.specs.declared.Row.{Row}
use Rattle.table.specs.Format.{typed_sorts}

-- a module: A is 1 for trusted, 0 for guest; a procedure: A is 1 for public, 0 for private
abbrev pub is_trusted : Row → Bool
is_trusted row = eqb row.a 1

abbrev pub is_public : Row → Bool
is_public row = eqb row.a 1

-- a field: C is 1 for guarded, else 0; a local: C is 1 for a parameter, else 0
abbrev pub is_guarded : Row → Bool
is_guarded row = eqb row.c 1

abbrev pub is_parameter : Row → Bool
is_parameter row = eqb row.c 1

-- a local or a result: whether a value of its sort has a type, which B names
unfoldable pub has_type : ℕ → Bool
has_type sort = member sort typed_sorts
