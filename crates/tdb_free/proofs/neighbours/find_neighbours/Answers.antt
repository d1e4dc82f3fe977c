-- The records that look free beside the stretch are its neighbours where the walk finds them.
use Rattle.std.proofs.Common.{◌≡◌, ℕ, ◌+◌, ◌*◌, List, Bool, Option, Some, None, true, refl, sym, ◌∙◌, ap, subst, arith}
use Rattle.std.specs.Prelude.{IfSome, MatchOption, is_some, not}
use Rattle.std.proofs.lemmas.Bool.{true≢false}
use Rattle.tdb_disk.specs.Count.{RoseUpTo}
use Rattle.tdb_words.specs.Word.{word}
use Rattle.tdb_space.specs.Form.{Form, free_head}
use Rattle.tdb_space.specs.Chain.{Free}
use Rattle.tdb_free.specs.FreeList.{end_of, ends_at}
use Rattle.tdb_free.specs.Look.{LooksFree, StartsByTailer, EndsFree}
use Rattle.tdb_free.specs.Search.{IsSpot}
use Rattle.tdb_free.specs.Stretch.{pair}
use Rattle.tdb_free.specs.Walk.{IsLed, IsFound, IsUpTo}
use Rattle.tdb_free.proofs.Looked.{none_starts, none_ends}
use Rattle.tdb_free.proofs.FoundBeside.{spot_sought, next_found, next_up_to, previous_found, previous_up_to}
use Rattle.tdb_free.proofs.neighbours.find_neighbours.Goals as goal

-- what holds of one view holds of another one with the same form and image
moved : (R : Form → List ℕ → Type 0) (f k : Form) (a i : List ℕ) → k ≡ f → i ≡ a → R k i → R f a
moved R f k a i form image r = subst (λ x. R x a) form (subst (λ y. R k y) image r)

-- what looks free behind the stretch, and before it
abbrev Behind : ℕ → Option ℕ → Form → List ℕ → Type 0
Behind at start f img = MatchOption start (LooksFree f.order img at → ⊥) (λ _. LooksFree f.order img at)

abbrev Before : ℕ → Option ℕ → Form → List ℕ → Type 0
Before at start f img = MatchOption start (EndsFree f.order img at → ⊥) (λ x. StartsByTailer f.order img at x × LooksFree f.order img x)

none_of : (o : Option ℕ) (none : Bool) → is_some o ≡ not none → none ≡ true → o ≡ None
none_of None none is holds = refl
none_of (Some x) none is holds = absurd (true≢false (is ∙ ap not holds))

pub returns-then-is_none-2-clause-found : goal.returns-then-is_none-2-clause-found
returns-then-is_none-2-clause-found g c told offs list =
    let f = g.S.Space.form c.args.s.now in
    let img = g.S.Space.image c.args.s.now in
    let from = word f.order img free_head in
    let hand = pair c.args.free.now in
    let no_next : c.in_ok-behind.behind ≡ None = none_of c.in_ok-behind.behind c.is_none.result c.is_none.ensures c.if-is_none.true in
    let no_previous : c.in_ok-before.before ≡ None = none_of c.in_ok-before.before c.is_none-then-is_none.result c.is_none-then-is_none.ensures c.if-is_none-2.true in
    let behind : Behind (end_of hand) c.in_ok-behind.behind f img = subst (λ e. Behind e c.in_ok-behind.behind f img) c.end.ensures (c.in_ok-behind.ensures.start told) in
    let before : Before hand.0 c.in_ok-before.before f img =
    moved (Before hand.0 c.in_ok-before.before) f (g.S.Space.form c.free_start.new.s) img (g.S.Space.image c.free_start.new.s) c.free_start.ensures.looked.form c.free_start.ensures.looked.image (c.in_ok-before.ensures.start told) in
    record {
      next = none_starts f img (end_of hand) from offs list (subst (λ o. Behind (end_of hand) o f img) no_next behind);
      previous = none_ends f img hand.0 from offs list (subst (λ o. Before hand.0 o f img) no_previous before);
    }

pub returns-clause-found : goal.returns-clause-found
returns-clause-found g c told offs list =
    let f = g.S.Space.form c.args.s.now in
    let img = g.S.Space.image c.args.s.now in
    let from = word f.order img free_head in
    let hand = pair c.args.free.now in
    let start = c.in_ok-behind.behind in
    let start_before = c.in_ok-before.before in
    let links = c.in_ok-links.links in
    let form1 = c.free_start.ensures.looked.form in
    let image1 = c.free_start.ensures.looked.image in
    let form2 = c.free_start_before.ensures.looked.form ∙ form1 in
    let image2 = c.free_start_before.ensures.looked.image ∙ image1 in
    let form3 = c.find_links.ensures.looked.form ∙ form2 in
    let image3 = c.find_links.ensures.looked.image ∙ image2 in
    let form4 = c.read_spot.ensures.looked.form ∙ form3 in
    let image4 = c.read_spot.ensures.looked.image ∙ image3 in
    let behind : Behind (end_of hand) start f img = subst (λ e. Behind e start f img) c.end.ensures (c.in_ok-behind.ensures.start told) in
    let before : Before hand.0 start_before f img = moved (Before hand.0 start_before) f (g.S.Space.form c.free_start.new.s) img (g.S.Space.image c.free_start.new.s) form1 image1 (c.in_ok-before.ensures.start told) in
    let same : IfSome start (λ x. x ≡ end_of hand) = subst (λ e. IfSome start (λ x. x ≡ e)) c.end.ensures c.in_ok-behind.ensures.same in
    let led : IsLed f img offs start links.0 =
    moved (λ k i. Free k i (word k.order i free_head) offs → IsLed k i offs start links.0) f (g.S.Space.form c.free_start_before.new.s) img (g.S.Space.image c.free_start_before.new.s) form2 image2
    (c.in_ok-links.ensures.first told offs) list in
    let led_before : IsLed f img offs start_before links.1 =
    moved (λ k i. Free k i (word k.order i free_head) offs → IsLed k i offs start_before links.1) f (g.S.Space.form c.free_start_before.new.s) img (g.S.Space.image c.free_start_before.new.s) form2 image2
    (c.in_ok-links.ensures.second told offs) list in
    let found : IsFound f img offs start c.in_ok-next.next =
    moved (λ k i. Free k i (word k.order i free_head) offs → (sought : Option ℕ) → IsLed k i offs sought links.0 → IsFound k i offs sought c.in_ok-next.next) f (g.S.Space.form c.find_links.new.s) img
    (g.S.Space.image c.find_links.new.s) form3 image3 (c.in_ok-next.ensures.found told offs) list start led in
    let found_before : IsFound f img offs start_before c.in_ok-previous.previous =
    moved (λ k i. Free k i (word k.order i free_head) offs → (sought : Option ℕ) → IsLed k i offs sought links.1 → IsFound k i offs sought c.in_ok-previous.previous) f (g.S.Space.form c.read_spot.new.s) img
    (g.S.Space.image c.read_spot.new.s) form4 image4 (c.in_ok-previous.ensures.found told offs) list start_before led_before in
    let sought = spot_sought (g.S.Space.size c.free_start_before.new.s) start_before links.1 c.in_ok-previous.previous c.in_ok-links.ensures.second_within c.in_ok-previous.ensures.led in
    record {
      next = next_found f img offs from list (end_of hand) start behind same c.in_ok-next.next found;
      previous = subst (λ o. IsSpot f img offs (ends_at hand.0) o) (sym c.that_ends.ensures) (previous_found f img offs from list hand.0 start_before before c.in_ok-previous.previous sought found_before);
    }

pub returns-clause-walked : goal.returns-clause-walked
returns-clause-walked g c told offs list most up_to =
    let f = g.S.Space.form c.args.s.now in
    let img = g.S.Space.image c.args.s.now in
    let from = word f.order img free_head in
    let hand = pair c.args.free.now in
    let start = c.in_ok-behind.behind in
    let start_before = c.in_ok-before.before in
    let form1 = c.free_start.ensures.looked.form in
    let image1 = c.free_start.ensures.looked.image in
    let form2 = c.free_start_before.ensures.looked.form ∙ form1 in
    let image2 = c.free_start_before.ensures.looked.image ∙ image1 in
    let behind : Behind (end_of hand) start f img = subst (λ e. Behind e start f img) c.end.ensures (c.in_ok-behind.ensures.start told) in
    let before : Before hand.0 start_before f img = moved (Before hand.0 start_before) f (g.S.Space.form c.free_start.new.s) img (g.S.Space.image c.free_start.new.s) form1 image1 (c.in_ok-before.ensures.start told) in
    let same : IfSome start (λ x. x ≡ end_of hand) = subst (λ e. IfSome start (λ x. x ≡ e)) c.end.ensures c.in_ok-behind.ensures.same in
    let walked : RoseUpTo (4 + 4 * most) (g.S.Space.bytes_read c.free_start_before.new.s) (g.S.Space.bytes_read c.find_links.new.s) =
    moved (λ k i. Free k i (word k.order i free_head) offs → (n : ℕ) → IsUpTo k i offs start n → IsUpTo k i offs start_before n
    → RoseUpTo (4 + 4 * n) (g.S.Space.bytes_read c.free_start_before.new.s) (g.S.Space.bytes_read c.find_links.new.s)) f (g.S.Space.form c.free_start_before.new.s) img
    (g.S.Space.image c.free_start_before.new.s) form2 image2 (c.find_links.ensures.walked told offs) list most
    (next_up_to f img offs from list (end_of hand) start behind same most up_to.next) (previous_up_to f img offs from list hand.0 start_before before most up_to.previous) in
    record {
      no_more = omega (
        arith,
        c.free_start.ensures.bytes_read.no_more,
        c.free_start_before.ensures.bytes_read.no_more,
        walked.no_more,
        c.read_spot.ensures.bytes_read.no_more,
        c.read_spot-2.ensures.bytes_read.no_more,
      );
      never_falls = omega (
        arith,
        c.free_start.ensures.bytes_read.never_falls,
        c.free_start_before.ensures.bytes_read.never_falls,
        walked.never_falls,
        c.read_spot.ensures.bytes_read.never_falls,
        c.read_spot-2.ensures.bytes_read.never_falls,
      );
    }

-- a record beside the stretch couldn't be read, or a word of the list
pub returns-in_err-previous-clause-walked : goal.returns-in_err-previous-clause-walked
returns-in_err-previous-clause-walked g c told offs list most up_to =
    let f = g.S.Space.form c.args.s.now in
    let img = g.S.Space.image c.args.s.now in
    let from = word f.order img free_head in
    let hand = pair c.args.free.now in
    let start = c.in_ok-behind.behind in
    let start_before = c.in_ok-before.before in
    let form1 = c.free_start.ensures.looked.form in
    let image1 = c.free_start.ensures.looked.image in
    let form2 = c.free_start_before.ensures.looked.form ∙ form1 in
    let image2 = c.free_start_before.ensures.looked.image ∙ image1 in
    let behind : Behind (end_of hand) start f img = subst (λ e. Behind e start f img) c.end.ensures (c.in_ok-behind.ensures.start told) in
    let before : Before hand.0 start_before f img = moved (Before hand.0 start_before) f (g.S.Space.form c.free_start.new.s) img (g.S.Space.image c.free_start.new.s) form1 image1 (c.in_ok-before.ensures.start told) in
    let same : IfSome start (λ x. x ≡ end_of hand) = subst (λ e. IfSome start (λ x. x ≡ e)) c.end.ensures c.in_ok-behind.ensures.same in
    let walked : RoseUpTo (4 + 4 * most) (g.S.Space.bytes_read c.free_start_before.new.s) (g.S.Space.bytes_read c.find_links.new.s) =
    moved (λ k i. Free k i (word k.order i free_head) offs → (n : ℕ) → IsUpTo k i offs start n → IsUpTo k i offs start_before n
    → RoseUpTo (4 + 4 * n) (g.S.Space.bytes_read c.free_start_before.new.s) (g.S.Space.bytes_read c.find_links.new.s)) f (g.S.Space.form c.free_start_before.new.s) img
    (g.S.Space.image c.free_start_before.new.s) form2 image2 (c.find_links.ensures.walked told offs) list most
    (next_up_to f img offs from list (end_of hand) start behind same most up_to.next) (previous_up_to f img offs from list hand.0 start_before before most up_to.previous) in
    record {
      no_more = omega (
        arith,
        c.free_start.ensures.bytes_read.no_more,
        c.free_start_before.ensures.bytes_read.no_more,
        walked.no_more,
        c.read_spot.ensures.bytes_read.no_more,
        c.read_spot-2.ensures.bytes_read.no_more,
      );
      never_falls = omega (
        arith,
        c.free_start.ensures.bytes_read.never_falls,
        c.free_start_before.ensures.bytes_read.never_falls,
        walked.never_falls,
        c.read_spot.ensures.bytes_read.never_falls,
        c.read_spot-2.ensures.bytes_read.never_falls,
      );
    }

pub returns-in_err-next-clause-walked : goal.returns-in_err-next-clause-walked
returns-in_err-next-clause-walked g c told offs list most up_to =
    let f = g.S.Space.form c.args.s.now in
    let img = g.S.Space.image c.args.s.now in
    let from = word f.order img free_head in
    let hand = pair c.args.free.now in
    let start = c.in_ok-behind.behind in
    let start_before = c.in_ok-before.before in
    let form1 = c.free_start.ensures.looked.form in
    let image1 = c.free_start.ensures.looked.image in
    let form2 = c.free_start_before.ensures.looked.form ∙ form1 in
    let image2 = c.free_start_before.ensures.looked.image ∙ image1 in
    let behind : Behind (end_of hand) start f img = subst (λ e. Behind e start f img) c.end.ensures (c.in_ok-behind.ensures.start told) in
    let before : Before hand.0 start_before f img = moved (Before hand.0 start_before) f (g.S.Space.form c.free_start.new.s) img (g.S.Space.image c.free_start.new.s) form1 image1 (c.in_ok-before.ensures.start told) in
    let same : IfSome start (λ x. x ≡ end_of hand) = subst (λ e. IfSome start (λ x. x ≡ e)) c.end.ensures c.in_ok-behind.ensures.same in
    let walked : RoseUpTo (4 + 4 * most) (g.S.Space.bytes_read c.free_start_before.new.s) (g.S.Space.bytes_read c.find_links.new.s) =
    moved (λ k i. Free k i (word k.order i free_head) offs → (n : ℕ) → IsUpTo k i offs start n → IsUpTo k i offs start_before n
    → RoseUpTo (4 + 4 * n) (g.S.Space.bytes_read c.free_start_before.new.s) (g.S.Space.bytes_read c.find_links.new.s)) f (g.S.Space.form c.free_start_before.new.s) img
    (g.S.Space.image c.free_start_before.new.s) form2 image2 (c.find_links.ensures.walked told offs) list most
    (next_up_to f img offs from list (end_of hand) start behind same most up_to.next) (previous_up_to f img offs from list hand.0 start_before before most up_to.previous) in
    record {
      no_more = omega (
        arith,
        c.free_start.ensures.bytes_read.no_more,
        c.free_start_before.ensures.bytes_read.no_more,
        walked.no_more,
        c.read_spot.ensures.bytes_read.no_more,
      );
      never_falls = omega (
        arith,
        c.free_start.ensures.bytes_read.never_falls,
        c.free_start_before.ensures.bytes_read.never_falls,
        walked.never_falls,
        c.read_spot.ensures.bytes_read.never_falls,
      );
    }

pub returns-in_err-links-clause-walked : goal.returns-in_err-links-clause-walked
returns-in_err-links-clause-walked g c told offs list most up_to =
    let f = g.S.Space.form c.args.s.now in
    let img = g.S.Space.image c.args.s.now in
    let from = word f.order img free_head in
    let hand = pair c.args.free.now in
    let start = c.in_ok-behind.behind in
    let start_before = c.in_ok-before.before in
    let form1 = c.free_start.ensures.looked.form in
    let image1 = c.free_start.ensures.looked.image in
    let form2 = c.free_start_before.ensures.looked.form ∙ form1 in
    let image2 = c.free_start_before.ensures.looked.image ∙ image1 in
    let behind : Behind (end_of hand) start f img = subst (λ e. Behind e start f img) c.end.ensures (c.in_ok-behind.ensures.start told) in
    let before : Before hand.0 start_before f img = moved (Before hand.0 start_before) f (g.S.Space.form c.free_start.new.s) img (g.S.Space.image c.free_start.new.s) form1 image1 (c.in_ok-before.ensures.start told) in
    let same : IfSome start (λ x. x ≡ end_of hand) = subst (λ e. IfSome start (λ x. x ≡ e)) c.end.ensures c.in_ok-behind.ensures.same in
    let walked : RoseUpTo (4 + 4 * most) (g.S.Space.bytes_read c.free_start_before.new.s) (g.S.Space.bytes_read c.find_links.new.s) =
    moved (λ k i. Free k i (word k.order i free_head) offs → (n : ℕ) → IsUpTo k i offs start n → IsUpTo k i offs start_before n
    → RoseUpTo (4 + 4 * n) (g.S.Space.bytes_read c.free_start_before.new.s) (g.S.Space.bytes_read c.find_links.new.s)) f (g.S.Space.form c.free_start_before.new.s) img
    (g.S.Space.image c.free_start_before.new.s) form2 image2 (c.find_links.ensures.walked told offs) list most
    (next_up_to f img offs from list (end_of hand) start behind same most up_to.next) (previous_up_to f img offs from list hand.0 start_before before most up_to.previous) in
    record {
      no_more = omega (
        arith,
        c.free_start.ensures.bytes_read.no_more,
        c.free_start_before.ensures.bytes_read.no_more,
        walked.no_more,
      );
      never_falls = omega (
        arith,
        c.free_start.ensures.bytes_read.never_falls,
        c.free_start_before.ensures.bytes_read.never_falls,
        walked.never_falls,
      );
    }
