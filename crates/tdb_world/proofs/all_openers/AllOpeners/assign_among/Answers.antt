-- A command is given to an opener among the others.
use Rattle.std.proofs.Common.{◌≡◌, false, ℕ, List, None, sym, ap, subst}
use Rattle.tdb_space.specs.Form.{form_in}
use Rattle.tdb_law.specs.Commands.Command.{OnGroup}
use Rattle.tdb_law.specs.Commands.GroupCommand.{Start}
use Rattle.tdb_law.specs.Events.{Given}
use Rattle.tdb_law.specs.Refusals.{refusal}
use Rattle.tdb_commands.specs.InLaw.{law_command, law_opener}
use Rattle.tdb_openers.specs.Given.{IsBeginning}
use Rattle.tdb_openers.specs.Openers.{own_of}
use Rattle.tdb_openers.specs.Worlds.{World, state_in, BytesStand, IsAssigned, IsFree, Stands}
use Rattle.tdb_openers.specs.declared.opener.Opener.{Opener}
use Rattle.tdb_world.specs.States.{IsStateOf}
use Rattle.tdb_world.specs.Steps.{GiftLeads, HasCommand}
use Rattle.tdb_world.specs.Whole.{Whole, WorldFits, is_starting}
use Rattle.tdb_world.specs.contracts.all_openers.AllOpeners.{the_view}
use Rattle.tdb_world.proofs.Gifts.{assigned_busy, assigned_fits, assigned_given, begun_busy, begun_fits, begun_given}
use Rattle.tdb_world.proofs.Standings.{free_among}
use Rattle.tdb_world.proofs.all_openers.AllOpeners.assign_among.Goals as goal

module _ (c : goal.Joined-command) where
  abbrev w : Whole
  w = c.args.self.now

  abbrev x : Opener
  x = (free_among w c.args.who c.requires.among c.requires.free).0

  free : IsFree w.openers c.args.who x
  free = (free_among w c.args.who c.requires.among c.requires.free).1

  none : is_starting w.starts (law_opener c.args.who) ≡ false
  none = (free_among w c.args.who c.requires.among c.requires.free).2

  same : c.self.inside.openers ≡ w.openers
  same = ap (λ (z : Whole). z.openers) c.self.view_is

  beginning : IsBeginning (form_in w.openers.header) (own_of w.openers.options x) c.args.command
  beginning =
      subst (λ (z : World). IsBeginning (form_in z.header) (own_of z.options x) c.args.command) same
      (c.if-begins.ensures.opener x (subst (λ z. IsFree z c.args.who x) (sym same) free).number)

  granted : refusal (form_in w.openers.header) (OnGroup Start) (own_of w.openers.options x) ≡ None
  granted = subst (λ k. refusal (form_in w.openers.header) (law_command k) (own_of w.openers.options x) ≡ None) beginning.start beginning.granted

  begins_fits : (img : List ℕ) (size : ℕ) → WorldFits w img size → WorldFits c.begin.new.self img size
  begins_fits img size F = subst (λ z. WorldFits z img size) (sym c.begin.ensures) (begun_fits w c.args.who c.requires.named c.requires.among none x free c.requires.fits.0 granted img size F)

pub returns-then-begins-clause-fits : goal.returns-then-begins-clause-fits
returns-then-begins-clause-fits c = begins_fits c

pub returns-then-begins-clause-busy : goal.returns-then-begins-clause-busy
returns-then-begins-clause-busy c =
    let F = c.requires.fits in
    subst (λ z. HasCommand z c.args.who) (sym c.begin.ensures) (begun_busy (w c) c.args.who c.requires.named c.requires.among (none c) (x c) (free c) F.0 (granted c) F.0 F.1 F.2)

pub returns-then-begins-clause-given : goal.returns-then-begins-clause-given
returns-then-begins-clause-given c = λ h state is.
    let F = c.requires.fits in
    let J = begun_given (w c) c.args.who c.requires.named c.requires.among (none c) (x c) (free c) F.0 (granted c) F.1 F.2 h state is in
    (J.0, subst (λ z. IsStateOf z h J.0) (sym c.begin.ensures) J.1, subst (λ k. Given state (law_opener c.args.who) (law_command k) J.0) (sym (beginning c).start) J.2)

module _ (c : goal.After-assign) where
  abbrev u : Whole
  u = c.args.self.now

  abbrev y : Opener
  y = (free_among u c.args.who c.requires.among c.requires.free).0

  still : is_starting u.starts (law_opener c.args.who) ≡ false
  still = (free_among u c.args.who c.requires.among c.requires.free).2

  those : c.self.inside.openers ≡ u.openers
  those = ap (λ (z : Whole). z.openers) c.self.view_is

  assigned : IsAssigned u.openers c.args.who y c.args.command c.requires.fits.1 c.assign.new.self
  assigned =
      subst (λ z. IsAssigned z c.args.who y c.args.command c.requires.fits.1 c.assign.new.self) those
      (c.assign.ensures.assigned c.requires.fits.1 y (subst (λ z. IsFree z c.args.who y) (sym those) (free_among u c.args.who c.requires.among c.requires.free).1))

  later : the_view (record { openers = c.assign.new.self; starts = c.self.inside.starts; aside = c.self.inside.aside; number = c.self.inside.number; stale = c.self.inside.stale }) ≡ record u { openers = c.assign.new.self }
  later = ap (λ (z : Whole). record z { openers = c.assign.new.self }) c.self.view_is

pub returns-else-begins-clause-fits : goal.returns-else-begins-clause-fits
returns-else-begins-clause-fits c = λ img size F.
    subst (λ z. WorldFits z img size) (sym (later c))
    (assigned_fits (u c) c.args.who c.requires.named c.requires.among (still c) c.assign.new.self (y c) c.args.command c.requires.fits.1 (assigned c)
    (subst (λ z. (img : List ℕ) (size : ℕ) → Stands z img size → Stands c.assign.new.self img size) (those c) c.assign.ensures.stands) img size F)

pub returns-else-begins-clause-busy : goal.returns-else-begins-clause-busy
returns-else-begins-clause-busy c =
    subst (λ z. HasCommand z c.args.who) (sym (later c))
    (assigned_busy (u c) c.args.who c.requires.named c.requires.among (still c) c.assign.new.self (y c) c.args.command c.requires.fits.1 (assigned c))

pub returns-else-begins-clause-given : goal.returns-else-begins-clause-given
returns-else-begins-clause-given c = λ h.
    let F = c.requires.fits in
    subst (λ z. GiftLeads (u c) z h c.args.who (law_command c.args.command)) (sym (later c))
    (assigned_given (u c) c.args.who c.requires.named c.requires.among (still c) c.assign.new.self (y c) c.args.command F.1 (assigned c) F.0 F.1 F.2
    (subst (λ z. (img : List ℕ) → BytesStand z img → BytesStand c.assign.new.self img) (those c) c.assign.ensures.bytes)
    (subst (λ z. (img : List ℕ) → Given (state_in z img) (law_opener c.args.who) (law_command c.args.command) (state_in c.assign.new.self img)) (those c) c.assign.ensures.given) h)

pub returns-else-begins-clause-options : goal.returns-else-begins-clause-options
returns-else-begins-clause-options c = ap (λ (z : World). z.options) (assigned c).rest
