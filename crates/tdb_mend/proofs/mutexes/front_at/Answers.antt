-- Each way out, by the bytes that were read, in which the word for features is 0.
use Rattle.std.proofs.Common.{◌≡◌, ◌≤◌, length, take, drop, sym, ◌∙◌, ap, arith}
use Rattle.std.proofs.lemmas.List.{length-drop}
use Rattle.tdb_disk.specs.History.{seen}
use Rattle.tdb_words.specs.Header.{header_at}
use Rattle.tdb_space.proofs.FirstFault.Agreed.{chains_some}
use Rattle.tdb_check.proofs.Fronts.{front_header, header_whole, header_read, length_short, front_sound, fits_from}
use Rattle.tdb_mend.specs.Mutexes.{without_mutexes}
use Rattle.tdb_mend.proofs.Unlocked.{unlocked_front, unlocked_length, unlocked_told}
use Rattle.tdb_mend.proofs.mutexes.front_at.Goals as goal

pub returns-in-Err-clause-refused : goal.returns-in-Err-clause-refused
returns-in-Err-clause-refused g c told =
    let whole = seen (g.D.Disk.history c.args.d.now) in
    let a = drop c.args.start whole in
    let b = without_mutexes a in
    let long : length b ≡ c.args.len = omega (arith, unlocked_length a, length-drop c.args.start whole, g.met.D.Disk.told_size c.args.d.now told, c.requires.length) in
    let held : 168 ≤ length b = omega (arith, long, c.if-len.false) in
    let read : c.without_mutexes.result ≡ take 168 (drop 0 b) =
    c.without_mutexes.ensures ∙ ap without_mutexes (c.in_ok-read.ensures.bytes told) ∙ sym (unlocked_front a 168 (omega arith) (omega (arith, held, unlocked_length a))) in
    front_header b c.without_mutexes.result c.in-Err.fault held read c.in-Err.ensures.fault

pub returns-then-is_short-clause-refused : goal.returns-then-is_short-clause-refused
returns-then-is_short-clause-refused g c told =
    let whole = seen (g.D.Disk.history c.args.d.now) in
    let a = drop c.args.start whole in
    let b = without_mutexes a in
    let long : length b ≡ c.args.len = omega (arith, unlocked_length a, length-drop c.args.start whole, g.met.D.Disk.told_size c.args.d.now told, c.requires.length) in
    let held : 168 ≤ length b = omega (arith, long, c.if-len.false) in
    let read : c.without_mutexes.result ≡ take 168 (drop 0 b) =
    c.without_mutexes.ensures ∙ ap without_mutexes (c.in_ok-read.ensures.bytes told) ∙ sym (unlocked_front a 168 (omega arith) (omega (arith, held, unlocked_length a))) in
    let ok = header_whole b c.without_mutexes.result held read c.in-Ok.ensures.header.0.no_fault in
    let is : c.in-Ok.header ≡ header_at b = c.in-Ok.ensures.header.1 ∙ header_read b c.without_mutexes.result read in
    length_short b c.args.len c.in-Ok.header.hash_size long ok (ap (λ h. h.hash_size) is) (sym c.is_short.ensures ∙ c.if-is_short.true)

pub returns-clause-sound : goal.returns-clause-sound
returns-clause-sound g c told =
    let whole = seen (g.D.Disk.history c.args.d.now) in
    let a = drop c.args.start whole in
    let b = without_mutexes a in
    let long : length b ≡ c.args.len = omega (arith, unlocked_length a, length-drop c.args.start whole, g.met.D.Disk.told_size c.args.d.now told, c.requires.length) in
    let held : 168 ≤ length b = omega (arith, long, c.if-len.false) in
    let read : c.without_mutexes.result ≡ take 168 (drop 0 b) =
    c.without_mutexes.ensures ∙ ap without_mutexes (c.in_ok-read.ensures.bytes told) ∙ sym (unlocked_front a 168 (omega arith) (omega (arith, held, unlocked_length a))) in
    let ok = header_whole b c.without_mutexes.result held read c.in-Ok.ensures.header.0.no_fault in
    let is : c.in-Ok.header ≡ header_at b = c.in-Ok.ensures.header.1 ∙ header_read b c.without_mutexes.result read in
    record {
      front = front_sound b c.args.len c.in-Ok.header.hash_size long ok (ap (λ h. h.hash_size) is) (sym c.is_short.ensures ∙ c.if-is_short.false);
      header = is ∙ unlocked_told a;
    }

pub returns-clause-chains : goal.returns-clause-chains
returns-clause-chains g c =
    let some = chains_some c.without_mutexes.result c.in-Ok.ensures.header.0.no_fault in
    omega (arith, some, ap (λ h. h.hash_size) c.in-Ok.ensures.header.1)

pub returns-clause-long : goal.returns-clause-long
returns-clause-long g c =
    (fits_from c.in-Ok.header.hash_size c.args.len (sym c.is_short.ensures ∙ c.if-is_short.false)).1
