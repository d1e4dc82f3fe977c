-- The area becomes zero, is dropped and given, and its pages are there.
use Rattle.std.proofs.Common.{◌≡◌, [], length, sym, ◌∙◌, subst, arith}
use Rattle.tdb_disk.specs.History.{History, seen}
use Rattle.tdb_space.specs.Accepted.{AcceptWith}
use Rattle.tdb_space.specs.Form.{Form, form_of}
use Rattle.tdb_txn.specs.Committing.{HasAreaIn}
use Rattle.tdb_txn.specs.Found.{Blanked}
use Rattle.tdb_txn.specs.GivenUp.{AreaGivenUp}
use Rattle.tdb_txn.specs.Pages.{length_filled, byte_over}
use Rattle.tdb_txn.specs.Txn.{txn_image, txn_form, txn_pages, txn_size}
use Rattle.tdb_txn.proofs.Replaced.{same_image, image_accepted, image_area}
use Rattle.tdb_txn.proofs.txn.Txn.give_up.Goals as goal

pub returns-clause-given_up : goal.returns-clause-given_up
returns-clause-given_up g c told may has =
    let h = g.D.Disk.history c.args.d.now in
    let r = seen h in
    let t = c.args.self.now in
    let first = c.ready.new.self in
    let zeroed = c.blank.new.self in
    let ready = c.ready-2.new.self in
    let after = c.drop_in_image.new.self in
    let a = txn_image t r in
    let before : txn_image first r ≡ a = same_image t first r c.ready.ensures.pages c.ready.ensures.size in
    let shown : txn_image ready r ≡ txn_image zeroed r = same_image zeroed ready r c.ready-2.ensures.pages c.ready-2.ensures.size in
    let size : txn_size ready ≡ txn_size t = c.ready-2.ensures.size ∙ c.blank.ensures.only.size ∙ c.ready.ensures.size in
    let form : txn_form ready ≡ form_of r = c.ready-2.ensures.form ∙ c.blank.ensures.only.form ∙ c.ready.ensures.form ∙ may.header in
    let one : g.D.Disk.history c.blank.new.d ≡ h = c.blank.ensures.history in
    let two : g.D.Disk.history c.drop_in_image.new.d ≡ h = c.drop_in_image.ensures.history ∙ one in
    let kept : txn_image c.hold.new.self r ≡ txn_image after r =
    subst (λ (x : History). txn_image c.hold.new.self (seen x) ≡ txn_image after (seen x)) two (c.in_ok-hold.ensures.image told) in
    let blanked : Blanked c.args.area a (txn_image ready r) =
    subst (Blanked c.args.area a) (sym shown) (subst (λ z. Blanked c.args.area z (txn_image zeroed r)) before (c.in_ok-blank.ensures.blanked told)) in
    let gives : AcceptWith (txn_form ready) a [] → HasAreaIn (txn_form ready).order a c.args.area → length a ≡ txn_size ready → Blanked c.args.area a (txn_image ready r) → AreaGivenUp (txn_form ready) a (txn_image after r) c.args.area =
    subst (λ (x : History). AcceptWith (txn_form ready) a [] → HasAreaIn (txn_form ready).order a c.args.area → length a ≡ txn_size ready → Blanked c.args.area a (txn_image ready (seen x)) → AreaGivenUp (txn_form ready) a (txn_image after (seen x)) c.args.area) one
    (c.in_ok-drop_in_image.ensures.given_up told (omega (arith, c.requires.short, size)) a) in
    subst (λ z. AreaGivenUp (form_of r) a z c.args.area) (sym kept)
    (subst (λ (f : Form). AcceptWith f a [] → HasAreaIn f.order a c.args.area → length a ≡ txn_size ready → Blanked c.args.area a (txn_image ready r) → AreaGivenUp f a (txn_image after r) c.args.area) form gives
    (image_accepted t r may) (image_area t r c.args.area may has) (length_filled (byte_over (txn_pages t) r) (txn_size t) ∙ sym size) blanked)
