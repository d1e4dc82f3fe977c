-- A turn of the one aside that another opener's lock of records blocks.
use Rattle.std.proofs.Common.{◌≡◌, ◌≢◌, ℕ, List, Some, refl, sym, ◌∙◌, ap, subst, arith}
use Rattle.tdb_disk.specs.History.{History}
use Rattle.tdb_space.specs.Form.{Form}
use Rattle.tdb_law.specs.Commands.Turn.{Blocked}
use Rattle.tdb_law.specs.Effects.{IsFirstConflict}
use Rattle.tdb_law.specs.Openers.{Task}
use Rattle.tdb_law.specs.Turned.{Turned}
use Rattle.tdb_law.specs.World.{State}
use Rattle.tdb_locks.specs.declared.kind.Kind.{Kind}
use Rattle.tdb_commands.specs.InLaw.{law_opener}
use Rattle.tdb_law.specs.OneAside.Own.{side_wants}
use Rattle.tdb_law.specs.OneAside.Sides.{Past, Side, beside}
use Rattle.tdb_law.specs.OneAside.Starts.{with_starts}
use Rattle.tdb_law.proofs.OneAside.Starting.{starts_turn}
use Rattle.tdb_txn_owner.specs.Holders.{HolderState}
use Rattle.tdb_txn_owner.specs.Lifts.{OthersKeep}
use Rattle.tdb_txn_owner.specs.Stages.{stage_task, Known}
use Rattle.tdb_txn_owner.specs.Wanting.{stage_wants, wanted_by}
use Rattle.tdb_txn_owner.specs.declared.wanting.Wants.{Wants}
use Rattle.tdb_txn_owner.proofs.Lifting.{beside_turns}
use Rattle.tdb_txn_owner.proofs.Waiting.{block_is_own}
use Rattle.tdb_txn_owner.proofs.Wanted.{wanted_law}
use Rattle.tdb_openers.specs.Aside.{wants_all}
use Rattle.tdb_openers.specs.Turning.{law_table}
use Rattle.tdb_openers.specs.Worlds.{state_in}
use Rattle.tdb_openers.proofs.Walks.StillWalks.{still_shift}
use Rattle.tdb_world.specs.Claims.{IsBarred}
use Rattle.tdb_world.specs.Whole.{form_at, is_starting, options_at, HolderFits, Whole, WorldFits}
use Rattle.tdb_world.proofs.Leading.{begun, here, starts_may, IsAt}
use Rattle.tdb_world.proofs.MayTurn.{at_else}
use Rattle.tdb_world.proofs.Staged.{early_waits, wants_early}

module _ (w : Whole) (h : HolderState) (any : List ℕ) (size : ℕ) (F : WorldFits w any size) (HF : HolderFits w h size) (old : History) (k : Known) (past : Past) (s : Side) (A : IsAt w h old k past s)
    (t : Task) (mine : stage_task h.stage ≡ Some t) (owner byte : ℕ) where
  abbrev f : Form
  f = form_at w

  abbrev p : State
  p = state_in w.openers k.file

  abbrev before : State
  before = beside p past s

  at : law_opener h.owner ≡ s.here
  at = here w h any size F HF old k past s A t mine

  theirs : (o b : ℕ) → o ≢ s.here → before.table o b ≡ law_table w.openers.table o b
  theirs o b ne = ap (λ (g : ℕ → ℕ). g b) (at_else s.here s.table (law_table w.openers.table) o ne)

  module _ (kind : Kind) (ws : stage_wants h.stage ≡ Wants.Records kind) (first : IsFirstConflict (law_table w.openers.table) (law_opener h.owner) (wants_all kind) (law_opener owner) byte) where
    wanted : (b : ℕ) → side_wants f s t b ≡ wants_all kind b
    wanted b = subst (λ v. side_wants f s t b ≡ wanted_by v b) ws (wanted_law f (options_at w) h.owner h.locks h.stage k past s t A.side mine b)

    conflict : IsFirstConflict before.table s.here (side_wants f s t) (law_opener owner) byte
    conflict =
        let other : law_opener owner ≢ s.here = (λ is. first.other (is ∙ sym at)) in
        record {
          other = other;
          conflict = (let both = first.conflict in let mine_wants = wanted byte in let holds = theirs (law_opener owner) byte other in omega (arith, both, mine_wants, holds));
          least = λ q b ne clash. first.least q b (λ is. ne (is ∙ at)) (let mine_wants = wanted b in let holds = theirs q b ne in omega (arith, clash, mine_wants, holds));
        }

    keep : OthersKeep f p p s t (Blocked (law_opener owner) byte)
    keep = record {
      joined = refl;
      task = λ o ne. refl;
      own = λ o ne. refl;
      spot = λ o ne. refl;
      table = λ o b ne. refl;
      mark = λ o ne. still_shift f _ _;
      ready = refl;
      stale = refl;
    }

    turned : Turned f before s.here t (Blocked (law_opener owner) byte) before
    turned =
        let waiting = early_waits f s.own t (wants_early kind h.stage t ws mine) in
        beside_turns f p p past past s s t (Blocked (law_opener owner) byte)
        (block_is_own f before.table p.file p.number past s t (law_opener owner) byte (A.side.task ∙ mine) A.side.keeps waiting.0 waiting.1 A.side.holds conflict) keep

    waits_there : Turned f (with_starts (is_starting w.starts) before) (law_opener h.owner) t (Blocked (law_opener owner) byte) (with_starts (is_starting w.starts) before)
    waits_there =
        subst (λ i. Turned f (with_starts (is_starting w.starts) before) i t (Blocked (law_opener owner) byte) (with_starts (is_starting w.starts) before)) (sym at)
        (starts_turn f before before (is_starting w.starts) s.here t (Blocked (law_opener owner) byte) (starts_may w h any size F HF old k past s A t mine) (begun w h any size F HF old k past s A t mine) turned).1

  pub barred_turned : (wants : Wants) → stage_wants h.stage ≡ wants → IsBarred w.openers h.owner wants owner byte
      → Turned f (with_starts (is_starting w.starts) before) (law_opener h.owner) t (Blocked (law_opener owner) byte) (with_starts (is_starting w.starts) before)
  barred_turned Wants.Nothing ws B = absurd B
  barred_turned Wants.Transaction ws B = absurd B
  barred_turned (Wants.Records kind) ws B = waits_there kind ws B
  barred_turned (Wants.Opening numbered) ws B = absurd B
