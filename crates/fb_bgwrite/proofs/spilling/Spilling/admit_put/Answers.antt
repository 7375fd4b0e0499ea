use Rattle.fb_bgwrite.proofs.Words.{◌+◌, ap, ◌∙◌, blocks_of, registered_count}
use Rattle.fb_bgwrite.proofs.Admitting.{none_yet_registered, put_admitted, room_for_next}
use Rattle.fb_bgwrite.proofs.spilling.Spilling.admit_put.Goals as goal

pub register_blocks-requires-clause-room : goal.register_blocks-requires-clause-room
register_blocks-requires-clause-room c = room_for_next c.args.self.now c.args.put c.requires.spilling c.requires.puts c.requires.next

pub register_blocks-requires-clause-none : goal.register_blocks-requires-clause-none
register_blocks-requires-clause-none c =
    let self = c.args.self.now in
    ap (λ es. registered_count (self.admitted + 1) (blocks_of es)) c.requires.spilling.registered
    ∙ none_yet_registered self.disk.now self.puts.now self.items self.admitted c.requires.puts

pub returns-clause-spilling : goal.returns-clause-spilling
returns-clause-spilling c = put_admitted c.args.self.now c.args.put c.register_blocks.new.pending c.requires.spilling c.requires.puts
    c.requires.next c.requires.come c.in_ok-register_blocks.ensures
