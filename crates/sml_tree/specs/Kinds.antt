-- The kinds of parameters.
use Rattle.std.specs.Prelude.{Bool, true, false}
use Rattle.sml_tree.specs.declared.file.Kind.{Kind}
use Rattle.sml_tree.specs.declared.file.Kind.TheVariants.{Int, Str}

-- whether two kinds are the same
abbrev pub same_kind : Kind → Kind → Bool
same_kind Int Int = true
same_kind Int Str = false
same_kind Str Int = false
same_kind Str Str = true
