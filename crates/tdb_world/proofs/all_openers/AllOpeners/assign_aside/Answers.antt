-- A command is given to the one aside.
use Rattle.std.proofs.Common.{◌≡◌, ℕ, List, Some, None, sym, ◌∙◌, ap, subst}
use Rattle.tdb_disk.specs.History.{History}
use Rattle.tdb_space.specs.Form.{Form}
use Rattle.tdb_law.specs.Events.{Given}
use Rattle.tdb_commands.specs.InLaw.{law_command, law_opener}
use Rattle.tdb_commands.specs.declared.options.Options.{Options}
use Rattle.tdb_words.specs.declared.header.Header.{Header}
use Rattle.tdb_law.specs.OneAside.Sides.{Past, Side}
use Rattle.tdb_txn_owner.specs.Ends.{task_of}
use Rattle.tdb_txn_owner.specs.Holders.{stage_depth, HolderState}
use Rattle.tdb_txn_owner.specs.Stages.{stage_task, IsFit, IsSide, KnowsFile, Known, MayBeGiven}
use Rattle.tdb_openers.proofs.ExplicitLocks.Aside.{either_way, on_both, on_one}
use Rattle.tdb_world.specs.States.{IsStateOf}
use Rattle.tdb_world.specs.Steps.{GiftLeads, HasCommand, HasRoom}
use Rattle.tdb_world.specs.Whole.{Whole, WorldFits}
use Rattle.tdb_world.specs.contracts.all_openers.AllOpeners.{the_view}
use Rattle.tdb_world.proofs.Gifts.{aside_given, aside_given_busy, aside_given_fits, given_holder, idle_stage}
use Rattle.tdb_world.proofs.Rooms.{aside_room, on_err}
use Rattle.tdb_world.proofs.Standings.{idle_holder, same_holder}
use Rattle.tdb_world.proofs.all_openers.AllOpeners.assign_aside.Goals as goal

module _ (c : goal.After-give_holder) where
  abbrev w : Whole
  w = c.args.self.now

  abbrev old : HolderState
  old = c.in-Some.holder

  abbrev new : HolderState
  new = c.give_holder.new.holder

  aside : w.aside ≡ Some old
  aside = ap (λ (z : Whole). z.aside) (sym c.self.view_is) ∙ c.in-Some.is

  owner : c.args.who ≡ old.owner
  owner = c.requires.aside.2 ∙ ap (λ (z : HolderState). z.owner) (same_holder w old c.requires.aside.0 aside c.requires.aside.1)

  later : the_view (record { openers = c.self.inside.openers; starts = c.self.inside.starts; aside = Some c.give_holder.new.holder; number = c.self.inside.number; stale = c.self.inside.stale }) ≡ record w { aside = Some new }
  later = ap (λ (z : Whole). record z { aside = Some new }) c.self.view_is

  none : stage_task old.stage ≡ None
  none = idle_holder w c.args.who old aside owner c.requires.free

  abbrev Made : Type 0
  Made = new ≡ given_holder w old aside c.args.command

  abbrev Sides : HolderState → Type 0
  Sides z = (f : Form) (o : Options) (k : Known) (past : Past) (s : Side) → IsSide f o old.owner old.locks old.stage k past s → IsSide f o z.owner z.locks z.stage k past (record s { task = Some (task_of (law_command c.args.command) 0) })

  abbrev Files : HolderState → Type 0
  Files z = (f : Form) (h : History) (k : Known) → KnowsFile f old.stage h k → KnowsFile f z.stage h k

  abbrev Fits : HolderState → Type 0
  Fits z = (h : Header) (limit size : ℕ) → IsFit old.stage h limit size → IsFit z.stage h limit size

  fits_then : (img : List ℕ) (size : ℕ) → WorldFits w img size → Made → Fits new → WorldFits (record w { aside = Some new }) img size
  fits_then img size F made fit = subst (λ z. WorldFits (record w { aside = Some z }) img size) (sym made) (aside_given_fits w old aside c.args.command (subst Fits made fit) img size F)

  fits_still : (img : List ℕ) (size : ℕ) → WorldFits w img size → new ≡ old → WorldFits (record w { aside = Some new }) img size
  fits_still img size F same = let is : w.aside ≡ Some new = aside ∙ ap Some (sym same) in subst (λ z. WorldFits z img size) (λ i. record w { aside = is i }) F

  busy_then : Made → HasCommand (record w { aside = Some new }) c.args.who
  busy_then made = subst (λ z. HasCommand (record w { aside = Some z }) c.args.who) (sym made) (aside_given_busy w old aside c.args.command (idle_stage old.stage none) c.args.who owner)

  given_then : Made → Sides new × Files new → (h : History) → GiftLeads w (record w { aside = Some new }) h c.args.who (law_command c.args.command)
  given_then made both h state is =
      let F = c.requires.fits in
      let J = aside_given w old aside c.args.command none F.0 F.1 F.2 (subst Sides made both.0) (subst Files made both.1) h state is in
      (J.0, subst (λ z. IsStateOf (record w { aside = Some z }) h J.0) (sym made) J.1, subst (λ n. Given state (law_opener n) (law_command c.args.command) J.0) (sym owner) J.2)

pub returns-clause-fits : goal.returns-clause-fits
returns-clause-fits c = λ img size F.
    subst (λ z. WorldFits z img size) (sym (later c))
    (either_way c.give_holder.result (Made c) (Fits c (new c)) (WorldFits (record (w c) { aside = Some (new c) }) img size) (new c ≡ old c) (fits_then c img size F) (fits_still c img size F) c.give_holder.ensures.given
    c.give_holder.ensures.fits c.give_holder.ensures.err)

pub returns-clause-may : goal.returns-clause-may
returns-clause-may c =
    on_one c.give_holder.result (MayBeGiven c.args.command (stage_depth (old c).stage)) (HasRoom (w c) c.args.who c.args.command) (aside_room (w c) (old c) c.args.who c.args.command (aside c)) c.give_holder.ensures.may

pub returns-clause-full : goal.returns-clause-full
returns-clause-full c =
    on_err c.give_holder.result (MayBeGiven c.args.command (stage_depth (old c).stage) → ⊥) (HasRoom (w c) c.args.who c.args.command → ⊥) (λ never room. never (room (old c) (aside c) (owner c))) c.give_holder.ensures.full

pub returns-clause-busy : goal.returns-clause-busy
returns-clause-busy c = on_one c.give_holder.result (Made c) _ (λ made. subst (λ z. HasCommand z c.args.who) (sym (later c)) (busy_then c made)) c.give_holder.ensures.given

pub returns-clause-given : goal.returns-clause-given
returns-clause-given c =
    on_both c.give_holder.result (Made c) (Sides c (new c) × Files c (new c)) _
    (λ made both h. subst (λ z. GiftLeads (w c) z h c.args.who (law_command c.args.command)) (sym (later c)) (given_then c made both h)) c.give_holder.ensures.given
    (on_both c.give_holder.result (Sides c (new c)) (Files c (new c)) (Sides c (new c) × Files c (new c)) (λ a b. (a, b)) c.give_holder.ensures.side c.give_holder.ensures.file)
