-- A command that the opener of a file is given.
use Rattle.std.proofs.Common.{◌≡◌, Bool, true, false, None, Some, refl, sym, ◌∙◌, ap, subst, inl, inr, ◌⊎◌}
use Rattle.tdb_disk.specs.History.{seen}
use Rattle.tdb_space.specs.Form.{form_in}
use Rattle.tdb_law.specs.Beginning.{nobody}
use Rattle.tdb_law.specs.Commands.{Command as LawCommand}
use Rattle.tdb_law.specs.Commands.Command.{OnGroup}
use Rattle.tdb_law.specs.Commands.GroupCommand.{Start}
use Rattle.tdb_law.specs.Openers.{Map, Own}
use Rattle.tdb_law.specs.Standing.{Stands}
use Rattle.tdb_law.specs.World.{State, IsSound}
use Rattle.tdb_law.proofs.Happening.{gift_lawful}
use Rattle.tdb_law.proofs.Tests.{never_true}
use Rattle.tdb_commands.specs.InLaw.{law_command, options_of}
use Rattle.tdb_commands.specs.declared.command.Command.{Command}
use Rattle.tdb_commands.specs.declared.command.Command.TheVariants as Asked
use Rattle.tdb_world.specs.OverFile.{FitsFile, OnlyInMemory, OverFile}
use Rattle.tdb_world.specs.OverFiles.Openers.{IsAbsent, WasGiven}
use Rattle.tdb_world.specs.States.{IsStateOf}
use Rattle.tdb_world.specs.Steps.{HasCommand, HasRoom}
use Rattle.tdb_world.proofs.Courses.OneTurn.{stale_in}
use Rattle.tdb_world.proofs.Courses.Standings.{busy_never_idle}
use Rattle.tdb_group.specs.Members.{IsMember, form_of_file, options_of_file}
use Rattle.tdb_group.specs.Turns.{Given, NotGiven, new_task}

-- a Start alone may find no room in the count of transactions
room_or_start : (w : OverFile) (command : Command) → HasRoom w.world 1 command ⊎ (law_command command ≡ OnGroup Start)
room_or_start w Asked.Start = inr refl
room_or_start w command = inl (λ h aside owner. tt)

-- The command was given.
module _ (tells : Bool) (command : Command) (a b : OverFile) (G : WasGiven a b 1 command) where
  abbrev c : LawCommand
  c = law_command command

  pub given_member : (m : Map) (x : Own) → IsMember m x None a → IsMember m x (Some (new_task c)) b
  given_member m x M =
      let L = G.leads a.history M.state M.has in
      let after = L.0 in
      let lawful = gift_lawful (form_of_file a) M.state after 0 c M.replay M.sound M.stands L.2 in
      let same : form_of_file a ≡ form_of_file b = ap form_in (sym G.memory.form.header) in
      let alike : options_of_file a ≡ options_of_file b = ap options_of (sym G.memory.form.options) in
      let history : b.history ≡ a.history = ap (λ (w : OverFile). w.history) G.memory.file in
      record {
        state = after;
        has = subst (λ h. IsStateOf b.world h after) (sym history) L.1;
        sound = subst (λ g. IsSound g after) same lawful.0;
        replay = M.replay;
        stands = subst (λ g. Stands g after M.replay) same lawful.1;
        map = M.map;
        own = M.own;
        others = λ o ne. M.others o ne ∙ ap nobody alike;
        command = L.2.task;
        fresh = ap (λ (s : State). s.stale) L.2.rest ∙ M.fresh;
      }

  pub was_given : b.world.stale ≡ false → Given tells c a b
  was_given settled = record { busy = G.busy; fresh = settled; memory = G.memory; member = λ told m x M. given_member m x M }

  -- no gate stands open then, so it is given
  pub stale_given : b.world.stale ≡ true → NotGiven tells c a b
  stale_given stale = record {
    memory = G.memory;
    member = λ told m x live M.
        (let N = given_member m x M in absurd (never_true (sym N.fresh ∙ stale_in b.world b.history N.state N.has ∙ stale)));
  }

-- The opener is one that may be given a command.
module _ (tells : Bool) (c : LawCommand) (a : OverFile) where
  same_memory : OnlyInMemory a a
  same_memory = record { file = refl; form = record { header = refl; options = refl } }

  pub never_busy : FitsFile a → HasCommand a.world 1 ⊎ IsAbsent a 1 → NotGiven tells c a a
  never_busy fits stands = record {
    memory = same_memory;
    member = λ told m x live M. (elim stands [
      | inl busy ↦ absurd (busy_never_idle a.world (seen a.history) a.size fits 1 a.history M.state M.has busy M.command)
      | inr absent ↦
          let own : (M.state.own 0).live ≡ true = ap (λ (y : Own). y.live) (sym (M.stands.owns 0) ∙ M.own) ∙ live in
          absurd (never_true (sym (absent.gone a.history M.state M.has) ∙ own))
    ]);
  }

pub no_room : (tells : Bool) (command : Command) (a : OverFile) → (HasRoom a.world 1 command → ⊥) → NotGiven tells (law_command command) a a
no_room tells command a full = record {
  memory = same_memory tells (law_command command) a;
  member = λ told m x live M. (elim (room_or_start a command) [ inl room ↦ absurd (full room) | inr start ↦ (start, M) ]);
}
