use Rattle.std.proofs.Common.{rules, ◌≡◌, ◌+◌, ◌++◌, length, replicate, ap, ◌∙◌, inr, arith}
use Rattle.std.proofs.lemmas.List.{nil_from_length}
use Rattle.std.proofs.lemmas.Result.{on_ok_weaker}
use Rattle.tdb_disk.specs.History.{seen}
use Rattle.tdb_disk.proofs.Runs.{quiet_synced}
use Rattle.tdb_open.specs.Creating.{heads_length}
use Rattle.tdb_open.proofs.Errors.{on_err}
use Rattle.tdb_open.proofs.NewFile.{header_long, is_new_file}
use Rattle.tdb_open.proofs.MakesFile.{broken_grow, broken_write, synced_now}
use Rattle.tdb_open.proofs.creating.make.Goals as goal

-- a growth that failed
pub returns-in_err-grow-clause-in_part : goal.returns-in_err-grow-clause-in_part
returns-in_err-grow-clause-in_part g c = on_err c.from_residual.result (λ told.
    let old = g.D.Disk.history c.args.disk.now in
    let to = c.file_len.result in
    let sized : to ≡ 168 + heads_length c.args.form.size = omega (arith, c.file_len.ensures) in
    let empty = nil_from_length (seen old) (g.met.D.Disk.told_size c.args.disk.now told ∙ c.requires.empty) in
    broken_grow c.args.form.size to sized old empty (g.D.Disk.history c.grow.new.self) c.grow.ensures.tried)

-- a write that failed
pub returns-in_err-write-clause-in_part : goal.returns-in_err-write-clause-in_part
returns-in_err-write-clause-in_part g c = on_err c.from_residual-in_err-write.result (λ told.
    let old = g.D.Disk.history c.args.disk.now in
    let to = c.file_len.result in
    let sized : to ≡ 168 + heads_length c.args.form.size = omega (arith, c.file_len.ensures) in
    let empty = nil_from_length (seen old) (g.met.D.Disk.told_size c.args.disk.now told ∙ c.requires.empty) in
    let long = ap length c.header_bytes.ensures.bytes ∙ header_long c.args.form.size c.args.form.order c.args.form.hash in
    broken_write c.args.form.size to sized old empty (g.D.Disk.history c.grow.new.self) (c.in_ok-grow.ensures.done told)
    (g.D.Disk.history c.write.new.self) (length c.header_bytes.result) long c.write.ensures.tried)

-- all calls were done
pub returns-clause-made : goal.returns-clause-made
returns-clause-made g c = on_ok_weaker c.sync.result (λ done told.
    (let old = g.D.Disk.history c.args.disk.now in
    let to = c.file_len.result in
    let sized : to ≡ 168 + heads_length c.args.form.size = omega (arith, c.file_len.ensures) in
    let empty = nil_from_length (seen old) (g.met.D.Disk.told_size c.args.disk.now told ∙ c.requires.empty) in
    let size = c.args.form.size in
    let order = c.args.form.order in
    let hash = c.args.form.hash in
    let long = ap length c.header_bytes.ensures.bytes ∙ header_long size order hash in
    let bytes = synced_now size to sized old empty (g.D.Disk.history c.grow.new.self) (c.in_ok-grow.ensures.done told) (g.D.Disk.history c.write.new.self) (g.D.Disk.history c.sync.new.self)
    c.header_bytes.result long (c.in_ok-write.ensures.done told) c.sync.ensures.tried in
    record {
      file = is_new_file size order hash c.requires.some (search rules) (seen (g.D.Disk.history c.sync.new.self)) (bytes ∙ ap (λ front. front ++ replicate (heads_length size) 0) c.header_bytes.ensures.bytes);
      quiet = quiet_synced (g.D.Disk.history c.write.new.self) (g.D.Disk.history c.sync.new.self) (done told);
    })) c.sync.ensures.done

-- a sync that failed
pub returns-clause-in_part : goal.returns-clause-in_part
returns-clause-in_part g c = on_err c.sync.result (λ told.
    let old = g.D.Disk.history c.args.disk.now in
    let to = c.file_len.result in
    let sized : to ≡ 168 + heads_length c.args.form.size = omega (arith, c.file_len.ensures) in
    let empty = nil_from_length (seen old) (g.met.D.Disk.told_size c.args.disk.now told ∙ c.requires.empty) in
    let long = ap length c.header_bytes.ensures.bytes ∙ header_long c.args.form.size c.args.form.order c.args.form.hash in
    inr (
      c.header_bytes.result,
      long,
      synced_now c.args.form.size to sized old empty (g.D.Disk.history c.grow.new.self) (c.in_ok-grow.ensures.done told)
          (g.D.Disk.history c.write.new.self) (g.D.Disk.history c.sync.new.self) c.header_bytes.result long (c.in_ok-write.ensures.done told) c.sync.ensures.tried,
    ))
