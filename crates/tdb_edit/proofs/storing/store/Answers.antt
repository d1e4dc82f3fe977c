-- There was room, and so the value is stored, or the disk failed.
use Rattle.std.proofs.Common.{◌≡◌, [], Some, length, sym, ◌∙◌, subst, arith}
use Rattle.std.proofs.lemmas.Result.{IfErr-weaker, on_err_weaker, on_ok_weaker}
use Rattle.tdb_space.specs.NewRecord.{rec_len_for}
use Rattle.tdb_space.specs.Accepted.{AcceptWith}
use Rattle.tdb_edit.specs.Edited.{KeyChanged, OnlyKeyChanges}
use Rattle.tdb_edit.specs.Stored.{has_room, FoundNoRoom}
use Rattle.tdb_edit.proofs.Freeing.{looked}
use Rattle.tdb_edit.proofs.Setting.{never_full, only_io, still_only}
use Rattle.tdb_edit.proofs.storing.store.Goals as goal

pub returns-clause-stored : goal.returns-clause-stored
returns-clause-stored g c =
    let l = c.in_ok-has_room.ensures.looked in
    on_ok_weaker c.set.result
    (λ set told small A.
    looked (λ x img. AcceptWith x img [] → KeyChanged x img (g.S.Space.image c.set.new.s) c.args.key.now (Some c.args.value.now)) (g.S.Space.form c.args.s.now) (g.S.Space.form c.has_room.new.s) (g.S.Space.image c.args.s.now) (g.S.Space.image c.has_room.new.s) l.form l.image
    (set told (omega (arith, l.size, small))) A)
    c.set.ensures.set

pub returns-clause-room : goal.returns-clause-room
returns-clause-room g c =
    let f = g.S.Space.form c.args.s.now in
    let a = g.S.Space.image c.args.s.now in
    on_ok_weaker c.set.result
    (λ set told A. sym (subst (λ n. c.in_ok-has_room.field-0 ≡ has_room f a n c.args.limit) c.rec_len_for-rec_len.ensures (c.in_ok-has_room.ensures.room told A)) ∙ c.if-not-branch.false)
    c.set.ensures.set

pub returns-clause-full : goal.returns-clause-full
returns-clause-full g c =
    let f = g.S.Space.form c.args.s.now in
    let a = g.S.Space.image c.args.s.now in
    let n = rec_len_for (length c.args.key.now) (length c.args.value.now) in
    let l = c.in_ok-has_room.ensures.looked in
    IfErr-weaker c.set.result _ _
    (λ e full told small A. never_full f a n c.args.limit e
    (sym (subst (λ m. c.in_ok-has_room.field-0 ≡ has_room f a m c.args.limit) c.rec_len_for-rec_len.ensures (c.in_ok-has_room.ensures.room told A)) ∙ c.if-not-branch.false)
    (looked (λ x img. AcceptWith x img [] → FoundNoRoom x img n c.args.limit e) f (g.S.Space.form c.has_room.new.s) a (g.S.Space.image c.has_room.new.s) l.form l.image (full told (omega (arith, l.size, small))) A))
    c.set.ensures.full

pub returns-clause-kept : goal.returns-clause-kept
returns-clause-kept g c =
    let f = g.S.Space.form c.args.s.now in
    let a = g.S.Space.image c.args.s.now in
    let n = rec_len_for (length c.args.key.now) (length c.args.value.now) in
    let l = c.in_ok-has_room.ensures.looked in
    IfErr-weaker c.set.result _ _
    (λ e full told small A other. only_io f a n c.args.limit e
    (sym (subst (λ m. c.in_ok-has_room.field-0 ≡ has_room f a m c.args.limit) c.rec_len_for-rec_len.ensures (c.in_ok-has_room.ensures.room told A)) ∙ c.if-not-branch.false)
    (looked (λ x img. AcceptWith x img [] → FoundNoRoom x img n c.args.limit e) f (g.S.Space.form c.has_room.new.s) a (g.S.Space.image c.has_room.new.s) l.form l.image (full told (omega (arith, l.size, small))) A) other)
    c.set.ensures.full

pub returns-clause-broken : goal.returns-clause-broken
returns-clause-broken g c =
    let l = c.in_ok-has_room.ensures.looked in
    on_err_weaker c.set.result
    (λ broken told small A.
    looked (λ x img. AcceptWith x img [] → OnlyKeyChanges x img (g.S.Space.image c.set.new.s) c.args.key.now) (g.S.Space.form c.args.s.now) (g.S.Space.form c.has_room.new.s) (g.S.Space.image c.args.s.now) (g.S.Space.image c.has_room.new.s) l.form l.image
    (broken told (omega (arith, l.size, small))) A)
    c.set.ensures.broken
