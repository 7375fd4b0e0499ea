use Rattle.fb_mirror.proofs.Words.{arith, subst, IsSound}
use Rattle.fb_mirror.proofs.ScriptRead.{script_read}
use Rattle.fb_mirror.proofs.script.rebuild_scripts_are_read.Goals as goal

pub returns : goal.returns
returns c = script_read c.args.map.now (subst IsSound c.geometry.ensures c.sound.ensures)
    (omega (arith, c.count-sectors.ensures.value, c.count-sectors.ensures.bound))
