-- How faults name a key.
use Rattle.std.specs.Prelude.{ℕ, List, ◌++◌, codes}
use Rattle.fb_params.specs.declared.name.KeyName.{KeyName}
use Rattle.fb_params.specs.declared.name.KeyName.TheVariants.{Plain, InZone}

-- the key of a zone has `zone.` before it
abbrev pub in_zone : List ℕ → List ℕ
in_zone name = codes "zone." ++ name

-- the text that names a key
abbrev pub spelled : KeyName → List ℕ
spelled (Plain name) = name.now
spelled (InZone name) = in_zone name.now
