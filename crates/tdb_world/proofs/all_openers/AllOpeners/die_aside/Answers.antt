-- The one aside dies.
use Rattle.std.proofs.Common.{◌≡◌, ℕ, List, Some, None, sym, ◌∙◌, ap, subst}
use Rattle.tdb_space.specs.Form.{form_in}
use Rattle.tdb_law.specs.Events.{Dies}
use Rattle.tdb_law.specs.Lines.{MayDie}
use Rattle.tdb_commands.specs.InLaw.{law_opener}
use Rattle.tdb_txn_owner.specs.Holders.{HolderState}
use Rattle.tdb_txn_owner.specs.Stages.{stage_task}
use Rattle.tdb_openers.specs.Died.{HasDied}
use Rattle.tdb_openers.specs.Worlds.{state_in, BytesStand, Stands}
use Rattle.tdb_openers.specs.Worlds.{World as Openers}
use Rattle.tdb_world.specs.Steps.{DeathLeads}
use Rattle.tdb_world.specs.Whole.{form_at, Whole, WorldFits}
use Rattle.tdb_world.specs.contracts.all_openers.AllOpeners.{the_view}
use Rattle.tdb_world.proofs.Deaths.{aside_fits, aside_leads}
use Rattle.tdb_world.proofs.Standings.{same_holder}
use Rattle.tdb_world.proofs.all_openers.AllOpeners.die_aside.Goals as goal

module _ (c : goal.After-die) where
  abbrev w : Whole
  w = c.args.self.now

  abbrev h : HolderState
  h = c.in-Some.holder

  aside : w.aside ≡ Some h
  aside = sym (ap (λ (z : Whole). z.aside) c.self.view_is) ∙ sym c.take.ensures.value ∙ c.in-Some.is

  same : c.requires.aside.0 ≡ h
  same = same_holder w h c.requires.aside.0 aside c.requires.aside.1

  named : c.args.who ≡ h.owner
  named = c.requires.aside.2 ∙ ap (λ (z : HolderState). z.owner) same

  may : MayDie (stage_task h.stage)
  may = subst (λ (z : HolderState). MayDie (stage_task z.stage)) same c.requires.aside.3

  those : c.self.inside.openers ≡ w.openers
  those = ap (λ (z : Whole). z.openers) c.self.view_is

  died : HasDied w.openers c.args.who c.die.new.self
  died = subst (λ z. HasDied z c.args.who c.die.new.self) those c.die.ensures.died

  stands : (img : List ℕ) (size : ℕ) → Stands w.openers img size → Stands c.die.new.self img size
  stands = subst (λ z. (img : List ℕ) (size : ℕ) → Stands z img size → Stands c.die.new.self img size) those c.die.ensures.stands

  bytes : (img : List ℕ) → BytesStand w.openers img → BytesStand c.die.new.self img
  bytes = subst (λ z. (img : List ℕ) → BytesStand z img → BytesStand c.die.new.self img) those c.die.ensures.bytes

  dies : (img : List ℕ) → Dies (form_at w) (state_in w.openers img) (law_opener c.args.who) (state_in c.die.new.self img)
  dies = subst (λ (z : Openers). (img : List ℕ) → Dies (form_in z.header) (state_in z img) (law_opener c.args.who) (state_in c.die.new.self img)) those c.die.ensures.dies

  later : the_view (record { openers = c.die.new.self; starts = c.self.inside.starts; aside = c.take.new.self; number = c.self.inside.number; stale = c.leaves_gate-stale.result })
      ≡ record w { openers = c.die.new.self; aside = None; stale = c.leaves_gate-stale.result }
  later = λ i. record (c.self.view_is i) { openers = c.die.new.self; aside = c.take.ensures.after i; stale = c.leaves_gate-stale.result }

pub returns-clause-fits : goal.returns-clause-fits
returns-clause-fits c = λ img size F.
    subst (λ z. WorldFits z img size) (sym (later c)) (aside_fits (w c) c.args.who c.die.new.self (died c) (stands c) (h c) (aside c) (named c) c.leaves_gate-stale.result c.leaves_gate-stale.ensures.stage img size F)

pub returns-clause-dies : goal.returns-clause-dies
returns-clause-dies c = λ history.
    let F = c.requires.fits in
    subst (λ z. DeathLeads (w c) z history c.args.who) (sym (later c))
    (aside_leads (w c) c.args.who c.die.new.self (died c) (stands c) (bytes c) (dies c) F.0 F.1 F.2 (h c) (aside c) (named c) (may c) c.leaves_gate-stale.result c.leaves_gate-stale.ensures.stage history)
