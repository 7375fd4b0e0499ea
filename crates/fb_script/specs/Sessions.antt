-- Of which kind a session is.
use Rattle.std.specs.Prelude.{Bool, true, false}
use Rattle.fb_script.specs.declared.call.Kind.{Kind}
use Rattle.fb_script.specs.declared.call.Kind.TheVariants.{Backup, Clean}

abbrev pub is_backup : Kind → Bool
is_backup Backup = true
is_backup _ = false

abbrev pub is_clean : Kind → Bool
is_clean Clean = true
is_clean _ = false
