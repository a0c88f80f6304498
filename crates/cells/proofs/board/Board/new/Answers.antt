use Rattle.std.proofs.Common.{rules, arith, ◌≡◌, ◌*◌, List, length, vec_len, replicate, slice_index, sym, ap, ◌∙◌, subst, refl, Vec, Global}
use Rattle.std.proofs.lemmas.List.{length-replicate}
use Rattle.cells.proofs.{Allowed.starts_with, Allowed.zeros_at, Channels.few_pairs, Channels.are_channels, Channels.are_single, Channels.length-channels_from}
use Rattle.cells.{proofs.Channels.lags_are, proofs.Lawful.lawful, proofs.board.Board.new.Given.Over, specs.Pairs.channels_of}
use Rattle.cells.specs.{Ports.AreBorders, Rule.AreChannelsOf, Rule.AreSingle, declared.TheConstants.WORDS_APART, declared.table.Channel.Channel}
use Rattle.cells.proofs.board.Board.new.Goals as goal

pub channels_for-requires : goal.channels_for-requires
channels_for-requires g c = few_pairs c.args.count c.args.pairs.now c.requires.pairs c.requires.count.1

pub overflow_mul-slots : goal.overflow_mul-slots
overflow_mul-slots g c = let few = few_pairs c.args.count c.args.pairs.now c.requires.pairs c.requires.count.1 in
    let l = length-channels_from 0 c.args.pairs.now in let e = ap (λ (z : List Channel). length z) c.in_ok-channels.ensures in
    let n = c.len.ensures in let v : length c.in_ok-channels.channels.items ≡ vec_len c.in_ok-channels.channels = search rules in
    omega arith

channels_are : (g : Over) (c : goal.After-layout-1 g) → c.of-2.result.value.items ≡ channels_of c.args.pairs.now
channels_are g c = ap (λ (z : Vec Channel Global). z.items) c.of-2.ensures ∙ c.in_ok-channels.ensures

pub vacant-requires : goal.vacant-requires
vacant-requires g c =
    let words : c.as_slice.result.now ≡ replicate (WORDS_APART * c.args.count) 0 = c.as_slice.ensures.value
    ∙ c.in_ok-words.ensures.items_if_clones_equal (λ y e. e) in
    let n = c.len.ensures in let v : length c.in_ok-channels.channels.items ≡ vec_len c.in_ok-channels.channels = search rules in
    let e = ap (λ (z : List Channel). length z) c.in_ok-channels.ensures in
    starts_with g.T.Exchange.right record { run = c.of.result; count = c.args.count; channels = c.of-2.result } c.args.count
    (channels_of c.args.pairs.now) c.as_slice.result.now (65 * c.len.result)
    refl (channels_are g c) (are_channels c.args.count c.args.pairs.now c.requires.pairs) (ap length words
    ∙ length-replicate (WORDS_APART * c.args.count) 0) (λ p. ap (λ z. slice_index z p) words ∙ zeros_at (WORDS_APART * c.args.count) p)
    (omega arith)

pub invariant_of-result : goal.invariant_of-result
invariant_of-result g c =
    let t = c.in_ok-table.ensures in let cs = c.in_ok-channels.ensures in
    let words : c.as_slice.result.now ≡ replicate (WORDS_APART * c.args.count) 0 = c.as_slice.ensures.value
    ∙ c.in_ok-words.ensures.items_if_clones_equal (λ y e. e) in
    let n = c.len.ensures in let v : length c.in_ok-channels.channels.items ≡ vec_len c.in_ok-channels.channels = search rules in
    let few = few_pairs c.args.count c.args.pairs.now c.requires.pairs c.requires.count.1 in
    let l = length-channels_from 0 c.args.pairs.now in record {
      channels_are = ap (λ k. k.channels.value.items) t.5 ∙ ap (λ (z : Vec Channel Global). z.items) c.of-2.ensures;
      count_is = ap (λ k. k.count) t.5;
      words_are = t.0 ∙ ap length words ∙ length-replicate (WORDS_APART * c.args.count) 0;
      slots_are = t.1 ∙ (let q : 65 * c.len.result ≡ 65 * length c.in_ok-channels.channels.items = omega arith in q);
      sound = subst (λ z. AreChannelsOf c.args.count z) (sym cs) (are_channels c.args.count c.args.pairs.now c.requires.pairs);
      few = (let e = ap (λ (z : List Channel). length z) cs in omega arith);
      single = subst AreSingle (sym cs) (are_single c.args.count c.args.pairs.now c.requires.pairs);
    }

pub returns-clause-lawful : goal.returns-clause-lawful
returns-clause-lawful g c = lawful g.T.Exchange.right _

pub returns-clause-neighbours : goal.returns-clause-neighbours
returns-clause-neighbours g c = λ p is. lags_are c.args.pairs.now p.partition p.borders.items
    (subst (λ cs. AreBorders cs p.partition p.borders.items) c.in_ok-channels.ensures is.borders)
