-- One of the others dies.
use Rattle.std.proofs.Common.{◌≡◌, ℕ, List, false, sym, ap, subst}
use Rattle.tdb_space.specs.Form.{form_in}
use Rattle.tdb_law.specs.Events.{Dies}
use Rattle.tdb_commands.specs.InLaw.{law_opener}
use Rattle.tdb_openers.specs.Died.{HasDied}
use Rattle.tdb_openers.specs.Worlds.{state_in, BytesStand, Stands}
use Rattle.tdb_openers.specs.Worlds.{World as Openers}
use Rattle.tdb_world.specs.Steps.{DeathLeads, IsAmong}
use Rattle.tdb_world.specs.Whole.{form_at, is_starting, Whole, WorldFits}
use Rattle.tdb_world.specs.contracts.all_openers.AllOpeners.{the_view}
use Rattle.tdb_world.proofs.Deaths.{among_fits, among_leads}
use Rattle.tdb_world.proofs.Mortal.{can_among}
use Rattle.tdb_world.proofs.all_openers.AllOpeners.die.Goals as goal

module _ (c : goal.After-die) where
  abbrev w : Whole
  w = c.args.self.now

  among : IsAmong w c.args.who
  among = c.is_aside.ensures.no c.if-is_aside.false

  begun : is_starting w.starts (law_opener c.args.who) ≡ false
  begun = (can_among w c.args.who among c.requires.can).2

  those : c.self.inside.openers ≡ w.openers
  those = ap (λ (z : Whole). z.openers) c.self.view_is

  died : HasDied w.openers c.args.who c.die.new.self
  died = subst (λ z. HasDied z c.args.who c.die.new.self) those c.die.ensures.died

  stands : (img : List ℕ) (size : ℕ) → Stands w.openers img size → Stands c.die.new.self img size
  stands = subst (λ z. (img : List ℕ) (size : ℕ) → Stands z img size → Stands c.die.new.self img size) those c.die.ensures.stands

  bytes : (img : List ℕ) → BytesStand w.openers img → BytesStand c.die.new.self img
  bytes = subst (λ z. (img : List ℕ) → BytesStand z img → BytesStand c.die.new.self img) those c.die.ensures.bytes

  dies : (img : List ℕ) → Dies (form_at w) (state_in w.openers img) (law_opener c.args.who) (state_in c.die.new.self img)
  dies = subst (λ (z : Openers). (img : List ℕ) → Dies (form_in z.header) (state_in z img) (law_opener c.args.who) (state_in c.die.new.self img)) those c.die.ensures.dies

  later : the_view (record { openers = c.die.new.self; starts = c.self.inside.starts; aside = c.self.inside.aside; number = c.self.inside.number; stale = c.self.inside.stale }) ≡ record w { openers = c.die.new.self }
  later = ap (λ (z : Whole). record z { openers = c.die.new.self }) c.self.view_is

pub returns-clause-fits : goal.returns-clause-fits
returns-clause-fits c = λ img size F.
    subst (λ z. WorldFits z img size) (sym (later c)) (among_fits (w c) c.args.who c.die.new.self (died c) (stands c) c.requires.named (among c) (begun c) img size F)

pub returns-clause-dies : goal.returns-clause-dies
returns-clause-dies c = λ history.
    let F = c.requires.fits in
    subst (λ z. DeathLeads (w c) z history c.args.who) (sym (later c))
    (among_leads (w c) c.args.who c.die.new.self (died c) (stands c) (bytes c) (dies c) F.0 F.1 F.2 c.requires.named (among c) (begun c) history)
