use Rattle.std.proofs.Common.{◌≡◌, ◌∙◌, ◌+◌, ◌/◌, ◌-◌, ◌<◌, arith, refl, subst, length, take, drop, inl, inr}
use Rattle.std.proofs.lemmas.Grind.{common_steps}
use Rattle.tdb_disk.specs.History.{seen}
use Rattle.tdb_txn.specs.Pages.{page_size, length_filled, byte_over}
use Rattle.tdb_txn.specs.Stock.{page_list}
use Rattle.tdb_txn.specs.Txn.{txn_image}
use Rattle.std.proofs.lemmas.Result.{MatchResult-from_err}
use Rattle.tdb_disk.specs.History.{History}
use Rattle.tdb_disk.specs.Image.{overlay}
use Rattle.tdb_disk.specs.Stop.{Torn}
use Rattle.tdb_txn.proofs.PagesMet.{adds_more}
use Rattle.tdb_txn.proofs.Places.{put_at, zeros_put, torn_part, part_written}
use Rattle.tdb_txn.proofs.txn.Txn.write.Goals as goal

pub returns-in_err-load-clause-image : goal.returns-in_err-load-clause-image
returns-in_err-load-clause-image g c = λ told.
    let file = seen (g.D.Disk.history c.args.d.now) in
    let before = txn_image c.args.self.now file in
    let was = c.loop-done.invariant in
    let same : txn_image c.load.new.self file ≡ txn_image c.loop-done.self file =
    subst (λ (h : History). txn_image c.load.new.self (seen h) ≡ txn_image c.loop-done.self (seen h)) was.history (c.load.ensures.image told) in
    MatchResult-from_err c.from_residual.result
    (λ _. txn_image c.load.new.self file ≡ overlay before c.args.off c.args.bytes.now)
    (λ _. Torn c.args.off (length c.args.bytes.now) before (txn_image c.load.new.self file))
    c.from_residual.ensures.0
    (λ _. torn_part before (txn_image c.load.new.self file) c.args.bytes.now c.args.off c.loop-done.done (same ∙ was.image told))

pub invariant_of-self-in-loop-done : goal.invariant_of-self-in-loop-done
invariant_of-self-in-loop-done g c =
    let part = c.after-part.result in
    let bytes = take (part.end - c.loop-done.done) (drop c.loop-done.done c.args.bytes.now) in
    let long : length bytes ≡ part.end - c.loop-done.done = grind (arith, common_steps) in
    record {
      longer = c.load.new.self.longer;
      zeros = zeros_put (page_list c.load.new.self.pages) (page_list c.patch.new.self) part.number part.within bytes
          c.load.new.self.size c.patch.ensures.put c.in_ok-load.ensures.there
          (omega (arith, c.requires.inside, c.load.ensures.only.size, c.loop-done.invariant.only.size, long, c.after-part.ensures.start, c.after-part.ensures.inside, c.after-part.ensures.more)) c.load.new.self.zeros;
      stocked = omega (arith, c.load.new.self.stocked, c.patch.ensures.left);
    }

pub loop-done-preserved : goal.loop-done-preserved
loop-done-preserved g c =
    let part = c.after-part.result in
    let is_part = c.after-part.ensures in
    let was = c.loop-done.invariant in
    let load = c.load.ensures in
    let file = seen (g.D.Disk.history c.args.d.now) in
    let before = txn_image c.args.self.now file in
    let bytes = take (part.end - c.loop-done.done) (drop c.loop-done.done c.args.bytes.now) in
    let long : length bytes ≡ part.end - c.loop-done.done = grind (arith, common_steps) in
    let before_long : length before ≡ c.args.self.now.size = length_filled (byte_over (page_list c.args.self.now.pages) file) c.args.self.now.size in
    let writes : c.load.new.self.writes ≡ c.loop-done.self.writes = cc in
    let left_bytes : c.load.new.self.bytes ≡ c.loop-done.self.bytes = cc in
    let more : c.loop-done.done < length c.args.bytes.now = omega (arith, is_part.more, is_part.inside) in
    let here : (c.args.off + c.loop-done.done) / page_size ≡ part.number = omega (arith, is_part.start, is_part.more, is_part.one_page) in
    let way = was.on_the_way more in
    record {
      inside = is_part.inside;
      image = λ told.
          let loaded : txn_image c.load.new.self file ≡ txn_image c.loop-done.self file =
          subst (λ (h : History). txn_image c.load.new.self (seen h) ≡ txn_image c.loop-done.self (seen h)) was.history (load.image told) in
          part_written before (txn_image c.loop-done.self file) _ c.args.bytes.now c.args.off c.loop-done.done part.end (c.args.off + c.loop-done.done)
          is_part.more is_part.inside (omega (arith, c.requires.inside, before_long)) refl (was.image told)
          (put_at (page_list c.load.new.self.pages) (page_list c.patch.new.self) part.number part.within (c.args.off + c.loop-done.done) bytes file
          (txn_image c.loop-done.self file) c.load.new.self.size c.patch.ensures.put c.in_ok-load.ensures.there
          (omega (arith, long, is_part.one_page, is_part.more)) is_part.start
          (omega (arith, c.requires.inside, load.only.size, was.only.size, long, is_part.inside, is_part.more)) loaded);
      pages =
          adds_more c.args.off c.loop-done.done part.end part.number part.within bytes (page_list c.args.self.now.pages)
          (page_list c.loop-done.self.pages) (page_list c.load.new.self.pages) (page_list c.patch.new.self) was.pages load.kept
          c.in_ok-load.ensures.there load.only_it c.patch.ensures.put is_part.more
          (λ i from to. omega (arith, from, to, is_part.start, is_part.one_page, is_part.more));
      only = record {
        start = load.only.start ∙ was.only.start;
        size = load.only.size ∙ was.only.size;
        form = load.only.form ∙ was.only.form;
        depth = load.only.depth ∙ was.only.depth;
        doomed = load.only.doomed ∙ was.only.doomed;
      };
      spare = load.spare ∙ was.spare;
      stock = λ less. elim is_part.whole [
        | inl end ↦ absurd (omega (arith, end, less))
        | inr full ↦ omega (arith, was.stock more, load.left, c.patch.ensures.left, writes, left_bytes, full, is_part.start, is_part.one_page, is_part.more, more)
      ];
      size = load.size ∙ was.size;
      history = load.history ∙ was.history;
      faults = c.in_ok-load.ensures.cause.done ∙ was.faults;
      syncs = load.syncs ∙ was.syncs;
      on_the_way = λ less. elim is_part.whole [
        | inl end ↦ absurd (omega (arith, end, less))
        | inr full ↦ omega (arith, way, load.bytes_read.no_more, here, full, is_part.start, is_part.more)
      ];
      bytes_read = omega (arith, way, load.bytes_read.no_more, here, more);
      never_falls = omega (arith, was.never_falls, load.bytes_read.never_falls);
    }
