-- A world that was just made over what a file holds.
use Rattle.std.proofs.Common.{◌≡◌, ◌∙◌, ℕ, List, [], ap, sym, subst}
use Rattle.tdb_words.specs.declared.header.Header.{Header}
use Rattle.tdb_words.specs.Word.{word}
use Rattle.tdb_words.specs.Header.{sequence_at}
use Rattle.tdb_disk.specs.History.{History, seen}
use Rattle.tdb_space.specs.Accepted.{AcceptWith}
use Rattle.tdb_space.specs.Form.{form_in, form_of}
use Rattle.tdb_law.specs.Beginning.{IsLoaded}
use Rattle.tdb_law.specs.Images.{image_map}
use Rattle.tdb_law.specs.World.{State}
use Rattle.tdb_commands.specs.declared.options.Options.{Options}
use Rattle.tdb_commands.specs.InLaw.{options_of}
use Rattle.tdb_world.specs.States.{IsStateOf}
use Rattle.tdb_world.specs.Whole.{Whole, form_at}
use Rattle.tdb_open.specs.Creating.{IsNewFile, new_file_header}
use Rattle.tdb_world.specs.Loaded.{IsOver, IsJustLoaded}
use Rattle.tdb_open.specs.Opening.{IsCheckedOn}
use Rattle.tdb_open.specs.declared.creating.NewForm.{NewForm}
use Rattle.tdb_open.specs.declared.opening.Opened.{Opened}

-- a state of it is just loaded over those bytes
pub just_loaded : (w : Whole) (h : History) (header : Header) (options : Options) → w.openers.header ≡ header → w.openers.options ≡ options
    → (state : State) × IsStateOf w h state × IsLoaded (form_in header) state (options_of options) × (state.file ≡ image_map (form_in header) (seen h)) × (state.number ≡ word (form_in header).order (seen h) sequence_at)
    → (state : State) × IsJustLoaded w h state
just_loaded w h header options same also (state, at, loaded, file, number) = (
  state,
  record {
    of_world = at;
    loaded = subst (λ (q : Header × Options). IsLoaded (form_in q.0) state (options_of q.1)) (λ j. (sym same j, sym also j)) loaded;
    over = subst (λ f. IsOver f (seen h) state) (ap form_in (sym same)) (record { file = file; number = number });
  },
)

-- a checked file is accepted with the form of a world that has its header
pub checked_accepted : (img : List ℕ) (o : Opened) → IsCheckedOn img o → AcceptWith (form_in o.header) img []
checked_accepted img o checked = subst (λ h. AcceptWith (form_in h) img []) (sym checked.header) checked.accepted

pub checked_form : (img : List ℕ) (o : Opened) (w : Whole) → w.openers.header ≡ o.header → IsCheckedOn img o → form_at w ≡ form_of img
checked_form img o w same checked = ap form_in (same ∙ checked.header)

-- and so is a new file
pub new_accepted : (form : NewForm) (img : List ℕ) → IsNewFile form.size form.order form.hash img → AcceptWith (form_in (new_file_header form)) img []
new_accepted form img file = subst (λ f. AcceptWith f img []) file.form file.accepted

pub new_form : (form : NewForm) (img : List ℕ) (w : Whole) → w.openers.header ≡ new_file_header form → IsNewFile form.size form.order form.hash img → form_at w ≡ form_of img
new_form form img w same file = ap form_in same ∙ sym file.form
