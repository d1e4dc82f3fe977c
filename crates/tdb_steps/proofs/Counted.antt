-- What is said of a turn that ends a command is so after the sequence number was raised.
use Rattle.std.proofs.Common.{◌≡◌, ℕ, inl, inr, Bool, false, List, Option, None, Some, subst, sym}
use Rattle.std.proofs.lemmas.Bool.{cases_Bool}
use Rattle.tdb_space.specs.Form.{Form}
use Rattle.tdb_chain.specs.declared.place.Place.{Place}
use Rattle.tdb_space.specs.Spare.{Spare}
use Rattle.tdb_locks.specs.declared.turn.Reply.{Reply}
use Rattle.tdb_steps.specs.declared.plain.Plain.{Plain}
use Rattle.tdb_steps.specs.declared.plain.Plain.TheVariants.{Fetch, Has, Store, Append, Delete, Wipe}
use Rattle.tdb_steps.specs.declared.stage.Stage.{Stage}
use Rattle.tdb_steps.specs.declared.stage.WipeStage.TheVariants as Wipes
use Rattle.tdb_steps.specs.declared.stage.Next.{Next}
use Rattle.tdb_steps.specs.Stages.{is_done, IsIdle}
use Rattle.tdb_steps.specs.Turns.{UpdatesRightly, StoresRightly, DeletesRightly}
use Rattle.tdb_steps.specs.Order.{InOrder, StoreOrder, DeleteOrder}
use Rattle.tdb_steps.specs.Machines.{begun, IsShort, IsFit, Fits, CommandRightly}
use Rattle.tdb_steps.proofs.Lawful.{done_ok}

-- where a command ends with Ok, nothing is said of the image after its turn
module _ (f : Form) (a m b : List ℕ) (limit : ℕ) (stood_on : List ℕ) where
  updated_ok : (n : ℕ) (place : Option Place) → UpdatesRightly a m n place (Next.Done Reply.Ok) → UpdatesRightly a b n place (Next.Done Reply.Ok)
  updated_ok n None R = R
  updated_ok n (Some place) R = R

  store_ok : (key : List ℕ) (value_len rec_len : ℕ) (stage : Stage) → StoreOrder stage (Next.Done Reply.Ok) → StoresRightly f a m key value_len rec_len limit stood_on stage (Next.Done Reply.Ok) → StoresRightly f a b key value_len rec_len limit stood_on stage (Next.Done Reply.Ok)
  store_ok key n r Stage.Begun order R = R
  store_ok key n r Stage.Chained order R = λ others A. let F = R others A in (F.0, F.1, updated_ok n F.0 F.2)
  store_ok key n r (Stage.Looked found) order R = R
  store_ok key n r (Stage.Listed found) order R = elim order [ ]
  store_ok key n r (Stage.Taken found hand) order R = elim order [ ]
  store_ok key n r (Stage.Changed hand) order R = cc
  store_ok key n r (Stage.Wiping locked) order R = elim order [ ]
  store_ok key n r Stage.Ending order R = R

  delete_ok : (key : List ℕ) (stage : Stage) → DeleteOrder stage (Next.Done Reply.Ok) → DeletesRightly f a m key stood_on stage (Next.Done Reply.Ok) → DeletesRightly f a b key stood_on stage (Next.Done Reply.Ok)
  delete_ok key Stage.Begun order R = R
  delete_ok key Stage.Chained order R = R
  delete_ok key (Stage.Looked found) order R = R
  delete_ok key (Stage.Listed found) order R = elim order [ ]
  delete_ok key (Stage.Taken found hand) order R = elim order [ ]
  delete_ok key (Stage.Changed hand) order R = cc
  delete_ok key (Stage.Wiping locked) order R = elim order [ ]
  delete_ok key Stage.Ending order R = R

  ok_rightly : (command : Plain) (whole : Option (List ℕ)) (stage : Stage) → InOrder command stage (Next.Done Reply.Ok) → (IsIdle stage → ⊥) → CommandRightly f a m command whole limit stood_on stage (Next.Done Reply.Ok) → CommandRightly f a b command whole limit stood_on stage (Next.Done Reply.Ok)
  ok_rightly (Fetch key) whole stage order busy R = R
  ok_rightly (Has key) whole stage order busy R = R
  ok_rightly (Store key value flag) whole stage order busy R = store_ok key _ _ stage order R
  ok_rightly (Append key value) whole stage order busy R = λ J. store_ok key _ _ stage order (R J)
  ok_rightly (Delete key) whole stage order busy R = delete_ok key stage order R
  ok_rightly Wipe whole Stage.Begun order busy R = absurd (busy tt)
  ok_rightly Wipe whole Stage.Chained order busy R = elim order [ ]
  ok_rightly Wipe whole (Stage.Looked found) order busy R = elim order [ ]
  ok_rightly Wipe whole (Stage.Listed found) order busy R = elim order [ ]
  ok_rightly Wipe whole (Stage.Taken found hand) order busy R = elim order [ ]
  ok_rightly Wipe whole (Stage.Changed hand) order busy R = elim order [ ]
  ok_rightly Wipe whole (Stage.Wiping Wipes.Records) order busy R = absurd (busy tt)
  ok_rightly Wipe whole (Stage.Wiping Wipes.FreeList) order busy R = elim order [ inl led ↦ cc | inr starved ↦ cc ]
  ok_rightly Wipe whole Stage.Ending order busy R = absurd (busy tt)

  pub end_rightly : (command : Plain) (whole : Option (List ℕ)) (stage : Stage) (r : Reply) → (is_done r ≡ false → b ≡ m) → InOrder command stage (Next.Done r) → (IsIdle stage → ⊥) → CommandRightly f a m command whole limit stood_on stage (Next.Done r) → CommandRightly f a b command whole limit stood_on stage (Next.Done r)
  end_rightly command whole stage r same order busy R = elim (cases_Bool (is_done r)) [
    | inl done ↦
        let ok : r ≡ Reply.Ok = done_ok r done in
        subst (λ x. CommandRightly f a b command whole limit stood_on stage (Next.Done x)) (sym ok)
        (ok_rightly command whole stage (subst (λ x. InOrder command stage (Next.Done x)) ok order) busy (subst (λ x. CommandRightly f a m command whole limit stood_on stage (Next.Done x)) ok R))
    | inr left ↦ subst (λ x. CommandRightly f a x command whole limit stood_on stage (Next.Done r)) (sym (same left)) R
  ]

-- a machine before its first turn fits each view
begun_fit : (command : Plain) (size : ℕ) (spare : Spare) → IsFit command None Stage.Begun size spare
begun_fit (Fetch key) size spare = tt
begun_fit (Has key) size spare = tt
begun_fit (Store key value flag) size spare = tt
begun_fit (Append key value) size spare = tt
begun_fit (Delete key) size spare = tt
begun_fit Wipe size spare = tt

pub begun_fits : (command : Plain) (chain : ℕ) (seqnum : Bool) (size : ℕ) (spare : Spare) → IsShort command → Fits (begun command chain seqnum) size spare
begun_fits command chain seqnum size spare short = record { short = short; short_whole = tt; stage = begun_fit command size spare }
