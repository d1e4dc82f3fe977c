use Rattle.std.proofs.Common.{◌≡◌, ℕ, Bool, true, false, List, [], None, refl, sym, subst}
use Rattle.std.specs.Prelude.{IsSome, MatchBool}
use Rattle.tdb_disk.specs.History.{seen}
use Rattle.tdb_cmdline.specs.declared.act.Verb.TheVariants.{Store}
use Rattle.tdb_space.specs.Form.{Form, form_in, form_of}
use Rattle.tdb_space.specs.Pairs.{map_of}
use Rattle.tdb_space.specs.Accepted.{AcceptWith}
use Rattle.tdb_open.specs.declared.opening.Opened.{Opened}
use Rattle.tdb_open.specs.Opening.{IsCheckedOn}
use Rattle.tdb_answer.specs.Acts.{Acted}
use Rattle.tdb_answer.proofs.Found.{told_of}
use Rattle.tdb_answer.proofs.Inserts.{key_is_there, inserts_as_stores}
use Rattle.tdb_answer.proofs.commands.insert.insert.Goals as goal

-- whether the key is there: the map has it, or doesn't
module _ (img key : List ℕ) (opened : Opened) (is_there : Bool) (on : IsCheckedOn img opened) where
  abbrev Told : Bool → Form → List ℕ → Type 0
  Told b f x = MatchBool b (IsSome (map_of f x key)) (map_of f x key ≡ None)

  looked : (AcceptWith (form_in opened.header) img [] → Told is_there (form_in opened.header) img) → (b : Bool) → is_there ≡ b → Told b (form_of img) img
  looked told b is =
      subst (λ b. Told b (form_of img) img) is
      (told_of img key opened on.accepted on.header (λ f x. Told is_there f x) (form_in opened.header) img refl refl told)

-- it is there
pub returns-then-branch-clause-acted : goal.returns-then-branch-clause-acted
returns-then-branch-clause-acted g c told =
    let old = g.D.Disk.history c.args.disk.now in
    key_is_there c.args.limit c.args.key.now c.args.value.now old _ c.in_ok-has_key.ensures.history
    (looked (seen old) c.args.key.now c.args.opened.now c.in_ok-has_key.field-0 (c.requires.opened told) (c.in_ok-has_key.ensures.told told) true c.if-branch.true)

-- it isn't: the file is still the one that was opened, and what a store does is done
pub store-requires-clause-opened : goal.store-requires-clause-opened
store-requires-clause-opened g c told =
    subst (λ h. IsCheckedOn (seen h) c.args.opened.now) (sym c.in_ok-has_key.ensures.history) (c.requires.opened told)

pub returns-clause-acted : goal.returns-clause-acted
returns-clause-acted g c told =
    let old = g.D.Disk.history c.args.disk.now in
    let key = c.args.key.now in
    inserts_as_stores c.args.limit key c.args.value.now old
    (looked (seen old) key c.args.opened.now c.in_ok-has_key.field-0 (c.requires.opened told) (c.in_ok-has_key.ensures.told told) false c.if-branch.false)
    _ _
    (subst (λ h. Acted c.args.limit (Store key c.args.value.now) h (g.D.Disk.history c.store.new.disk) c.store.result) c.in_ok-has_key.ensures.history (c.store.ensures.acted told))
