use Rattle.bm_base.specs.Width.{address_limit_of}
use Rattle.boot_audit.proofs.ConservedLaws.{conserved_says, reach_near, sound_says}
use Rattle.boot_audit.proofs.OrderLaws.{frames_ascend}
use Rattle.boot_audit.proofs.judgement.sound_verdict_conserves_memory.Goals as goal

pub returns : goal.returns
returns c =
    let s = c.args.saved.now in (
      sound_says (address_limit_of c.args.width) s.map.items s.owners.items s.blocks.items (reach_near c.args.width)
          (frames_ascend s.blocks.items c.requires.order) c.requires.fit,
      conserved_says (address_limit_of c.args.width) s.map.items s.owners.items s.blocks.items (reach_near c.args.width)
          (frames_ascend s.blocks.items c.requires.order) c.requires.fit,
    )
