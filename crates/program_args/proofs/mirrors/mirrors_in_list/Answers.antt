-- The frames of the next piece follow those found so far. If no piece remains, all are found.
use Rattle.std.proofs.Common.{◌∙◌, []}
use Rattle.std.proofs.lemmas.List.Elements.{All-append, All-cons, All-nil}
use Rattle.boot_model.specs.Mirrors.{IsMirror}
use Rattle.program_args.proofs.MirrorLaws.{frames_onward}
use Rattle.program_args.proofs.mirrors.mirrors_in_list.Goals as goal

pub loop-rest-preserved-in_ok-push : goal.loop-rest-preserved-in_ok-push
loop-rest-preserved-in_ok-push c = record {
  facts = rw c.in_ok-push.ensures.items
      (All-append IsMirror c.loop-rest.mirrors.items _ c.loop-rest.invariant.facts
      (All-cons IsMirror c.in-Some-piece_frames.frames [] c.in-Some-piece_frames.ensures.facts (All-nil IsMirror)));
  same = rw c.in_ok-push.ensures.items
      (frames_onward c.loop-rest.mirrors.items c.in-Some-piece_frames.frames _ _ _ c.next_part.ensures.parts
      c.in-Some-piece_frames.ensures.value ∙ (rw c.in-Some.is at c.loop-rest.invariant.same));
}
