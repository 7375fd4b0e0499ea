use Rattle.fb_maker.proofs.Words.{arith, subst, IsSound}
use Rattle.fb_maker.proofs.ScriptRead.{script_read}
use Rattle.fb_maker.proofs.script.made_scripts_are_read.Goals as goal

pub returns : goal.returns
returns c = script_read c.args.map.now (subst IsSound c.geometry.ensures c.sound.ensures)
    (omega (arith, c.count-sectors.ensures.value, c.count-sectors.ensures.bound))
