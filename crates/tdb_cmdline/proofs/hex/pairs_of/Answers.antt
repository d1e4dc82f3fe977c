use Rattle.std.proofs.Common.{◌≡◌, ◌∙◌, ◌<◌, ◌≤◌, ◌++◌, length, drop, ap, refl, sym, subst, rules, arith, Some}
use Rattle.std.specs.Option.{option_map}
use Rattle.tdb_cmdline.specs.Hex.{hex_pairs}
use Rattle.tdb_cmdline.proofs.HexLemmas.{rest_behind, none_before, no_pairs, more_pairs, all_pairs}
use Rattle.tdb_cmdline.proofs.hex.pairs_of.Goals as goal

pub loop-left-init : goal.loop-left-init
loop-left-init c =
    let digits = c.args.digits.now in
    record { read = subst (λ bytes. hex_pairs digits ≡ option_map (λ rest. bytes ++ rest) (hex_pairs digits)) (sym c.in_ok-bytes.ensures.items) (none_before (hex_pairs digits)) }

-- the digits left begin with no pair
pub returns-in_default : goal.returns-in_default
returns-in_default c =
    let some : 0 < length c.loop-left.left.now = search (rules, arith) in
    sym (no_pairs c.args.digits.now c.loop-left.bytes.items c.loop-left.left.now c.loop-left.invariant.read some (sym c.first_byte.ensures.byte ∙ c.in_default.is))

pub loop-left-preserved : goal.loop-left-preserved
loop-left-preserved c =
    let digits = c.args.digits.now in
    let left = c.loop-left.left.now in
    record {
      read = subst (λ bytes. hex_pairs digits ≡ option_map (λ rest. bytes ++ rest) (hex_pairs (drop 2 left))) (sym c.in_ok-push.ensures.items)
          (more_pairs digits c.loop-left.bytes.items left (drop 2 left) c.in-Some.byte c.loop-left.invariant.read (sym c.first_byte.ensures.byte ∙ c.in-Some.is) refl)
          ∙ ap (λ ds. option_map (λ rest. c.push.new.self.items ++ rest) (hex_pairs ds)) (sym (rest_behind left 2));
    }

-- none is left
pub returns : goal.returns
returns c =
    let none : length c.loop-left.left.now ≤ 0 = search (rules, arith) in
    ap Some c.from.ensures ∙ all_pairs c.args.digits.now c.loop-left.bytes.items c.loop-left.left.now c.loop-left.invariant.read none
