use Rattle.fb_mirror.proofs.Rebuilds.{sealed_stays, sealed_whole}
use Rattle.fb_mirror.proofs.laws.sealed_rebuilds_are_whole.Goals as goal

pub returns-clause-at_end : goal.returns-clause-at_end
returns-clause-at_end c =
    sealed_whole c.foreground_lists_ascend.ensures c.one_plain_replay.ensures c.covered_sectors_are_the_survivors.ensures.at_end

pub returns-clause-at_rest : goal.returns-clause-at_rest
returns-clause-at_rest c =
    sealed_stays c.foreground_lists_ascend.ensures c.one_plain_replay.ensures c.covered_sectors_are_the_survivors.ensures.at_rest
