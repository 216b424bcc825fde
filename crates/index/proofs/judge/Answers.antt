-- `index::judge` meets its contract: glue over Judging.
use Rattle.index.proofs.Judging.{used-small, used-fits, used-take, counts-small, sums-small, sums-fit, sums-take, cleared-work, kept-work, count-pre, reply-tree, reply-list, reply-count, reply-clean}
use native.Mathlib.Omega.{arith}
use Rattle.index.proofs.judge.Goals as goal

pub overflow_mul-used : goal.overflow_mul-used
overflow_mul-used c = omega (arith, used-small _ c.args.work.now c.requires)

pub overflow_mul-sums : goal.overflow_mul-sums
overflow_mul-sums c = omega (arith, sums-small _ c.args.work.now c.requires)

pub slice_bounds-clear-end : goal.slice_bounds-clear-end
slice_bounds-clear-end c = used-fits _ c.args.work.now c.requires

pub slice_bounds-clear-end-2 : goal.slice_bounds-clear-end-2
slice_bounds-clear-end-2 c = used-take _ c.args.work.now c.requires

pub overflow_cast-result : goal.overflow_cast-result
overflow_cast-result c = omega (arith, c.if-bad_node-n.true, c.requires.few_nodes)

pub returns-then-bad_node-n : goal.returns-then-bad_node-n
returns-then-bad_node-n c = record {
  reply = reply-tree _ c.args.work.now c.requires _ c.tree_bad-bad_node.ensures c.if-bad_node-n.true;
  work = cleared-work _ c.args.work.now c.requires _ c.clear.ensures;
}

pub overflow_cast-result-then-bad_word-k : goal.overflow_cast-result-then-bad_word-k
overflow_cast-result-then-bad_word-k c = omega (arith, c.if-bad_word-k.true, c.requires.few_words, c.requires.ended)

pub returns-then-bad_word-k : goal.returns-then-bad_word-k
returns-then-bad_word-k c =
    record {
      reply = reply-list _ c.args.work.now c.requires _ c.tree_bad-bad_node.ensures c.if-bad_node-n.false _ c.lists_bad-bad_word.ensures c.if-bad_word-k.true;
      work = cleared-work _ c.args.work.now c.requires _ c.clear.ensures;
    }

pub slice_bounds-counts_bad-end : goal.slice_bounds-counts_bad-end
slice_bounds-counts_bad-end c =
    sums-fit _ c.args.work.now c.requires _ c.clear.ensures

pub slice_bounds-counts_bad-end-2 : goal.slice_bounds-counts_bad-end-2
slice_bounds-counts_bad-end-2 c =
    sums-take _ c.args.work.now c.requires _ c.clear.ensures

pub counts_bad-requires : goal.counts_bad-requires
counts_bad-requires c =
    count-pre _ c.args.work.now c.requires _ c.clear.ensures
    (omega (arith, c.tree_bad-bad_node.ensures, c.if-bad_node-n.false)) (omega (arith, c.lists_bad-bad_word.ensures, c.if-bad_word-k.false))

pub overflow_cast-result-in-Some : goal.overflow_cast-result-in-Some
overflow_cast-result-in-Some c = omega (arith, c.in-Some.ensures.place.0, counts-small _ c.args.work.now c.requires)

pub returns-in-Some : goal.returns-in-Some
returns-in-Some c =
    record {
      reply = reply-count _ c.args.work.now c.requires _ c.tree_bad-bad_node.ensures c.if-bad_node-n.false _ c.lists_bad-bad_word.ensures
          c.if-bad_word-k.false _ c.in-Some.ensures.place;
      work = kept-work _ c.args.work.now c.requires _ c.clear.ensures _ c.in-Some.ensures.work;
    }

pub returns : goal.returns
returns c =
    record {
      reply = reply-clean _ c.args.work.now c.requires _ c.tree_bad-bad_node.ensures c.if-bad_node-n.false _ c.lists_bad-bad_word.ensures
          c.if-bad_word-k.false c.in_default.ensures.place;
      work = kept-work _ c.args.work.now c.requires _ c.clear.ensures _ c.in_default.ensures.work;
    }
