-- The word is set where there are mutexes.
use Rattle.std.proofs.Common.{◌≡◌, length, sym, ◌∙◌, ap}
use Rattle.tdb_disk.specs.Image.{overlay}
use Rattle.tdb_words.specs.Word.{bytes_of_word}
use Rattle.tdb_words.specs.Header.{header_order}
use Rattle.tdb_space.proofs.Exchange.Overlaid.{word_length}
use Rattle.tdb_mend.proofs.Unlocked.{put_four, unlocked_some}
use Rattle.tdb_mend.proofs.mutexes.without_mutexes.Goals as goal

pub returns-then-database_at-ne0 : goal.returns-then-database_at-ne0
returns-then-database_at-ne0 c =
    let bytes = c.args.bytes.now in
    let copied : c.copy_from_slice.new.self ≡ bytes_of_word (header_order bytes) 0 = c.copy_from_slice.ensures.after ∙ c.word_bytes.ensures.bytes ∙ ap (λ o. bytes_of_word o 0) c.order_in.ensures in
    put_four bytes c.copy_from_slice.new.self c.told-bytes (ap length copied ∙ word_length (header_order bytes) 0) ∙ ap (overlay bytes 60) copied
    ∙ sym (unlocked_some bytes (λ none. c.if-database_at-ne0.true (c.database_at.ensures.start ∙ none)))
