use Rattle.std.proofs.Common.{refl, sym, ◌∙◌, arith}
use Rattle.boot_options.specs.Options.{option_words, word_meaning, name_value_of}
use Rattle.boot_options.specs.Reading.{start_state, after_meaning}
use Rattle.boot_options.proofs.ReadingLaws.{option_words-read, after_meanings-fault, after_meanings-step, state_at}
use Rattle.boot_options.proofs.reading.read_option_words.Goals as goal

pub loop-word-init : goal.loop-word-init
loop-word-init c = record {
  reading = (
    start_state,
    record {
      edits = c.new.ensures.items;
      crash = record { plain = refl; high = refl; low = refl };
      numa_off = refl;
      add_efi = refl;
      user_map = refl;
    },
    refl,
  );
  few = omega arith;
}

pub returns-in-Err : goal.returns-in-Err
returns-in-Err c =
    let word = c.unquote-word.result.now in
    let after = c.in-Some.after.now in
    let words = option_words-read c.loop-word.rest.now c.in-Some.word.now after word c.as_slice.result.now
    c.in-Some.ensures.some c.unquote-word.ensures c.as_slice.ensures c.if-eq.ensures in
    let so_far = c.loop-word.invariant.reading in
    sym so_far.2
    ∙ rw words (after_meanings-fault c.loop-word.number so_far.0 c.in-Err.fault word (option_words after)
    (c.in-Err.ensures so_far.0 so_far.1))

pub loop-word-preserved : goal.loop-word-preserved
loop-word-preserved c =
    let word = c.unquote-word.result.now in
    let after = c.in-Some.after.now in
    let words = option_words-read c.loop-word.rest.now c.in-Some.word.now after word c.as_slice.result.now
    c.in-Some.ensures.some c.unquote-word.ensures c.as_slice.ensures c.if-eq.ensures in
    let so_far = c.loop-word.invariant.reading in
    let next = state_at c.read_word.new.reading
    (after_meaning c.loop-word.number so_far.0 (word_meaning c.loop-word.number (name_value_of word)))
    (c.in_default-read_word.ensures so_far.0 so_far.1) in
    record {
      reading = (
        next.0,
        next.1,
        sym (after_meanings-step c.loop-word.number so_far.0 next.0 word (option_words after) next.2)
            ∙ (rw words at so_far.2),
      );
      few = omega (arith, c.in-Some.ensures.shorter);
    }
