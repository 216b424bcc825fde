-- Calls with all that they leave: a table and a theorem. Nodes, places, lists and counts are worked out by hand from 02's Q-2 and Q-5; the
-- hashes, and with them the slots, come from a program written apart from this one. Every slice is lent full of nines.
--   sizes …           == the lengths lent: slots, parents, tags, firsts, lasts, ends, occurrences, counts, work
--   built, cramped, refuses   == for the text and the words, in slices of these sizes: accepted with so many nodes, and these rows; ROOM, a table of zeros, and nines; another refusal and nines
--   calls             the theorem: so it is for 21 calls. One entry short is ROOM for each of the nine slices; SIZE comes before MARKUP, and MARKUP before ROOM
-- Assumes nothing.
use Prim.Native.Nat.{ℕ}
use Prim.Native.String.{String}
use mathlib.Core.Path.{◌≡◌, refl}
use mathlib.Core.List.{List, [], ◌∷◌, map}
use lib.ListN.{replicate}
use Rattle.seq.specs.Below.{every_below, first_fail, tabulate, gather, listed}
use Rattle.seq.specs.Lists.{every_of, some_of, same_list, tally}
use Rattle.seq.specs.Memory.{zeroed, over}
use Rattle.tree.specs.Tree.{climb, line, under}
use Rattle.index.specs.Index.{start, word_list, count_under}
use Rattle.index.specs.declared.Reply.{Reply}
use Rattle.index.specs.Replies.{accepted, SIZE, ROOM, refused, totalled, kept_or}
use Rattle.profile.specs.Bytes.{char, white, name_start, name_char, data_char, starts_with}
use Rattle.profile.specs.Spans.{span, other}
use Rattle.profile.proofs.Cases.{bytes_of}
use Rattle.profile.specs.Machine.{run_byte, run_next, step_between, step_angle, step_tag, step_comment, step_ampersand, step_ampersand_a, step, accepting}
use Rattle.profile.specs.Reader.{end_at, note, read, tree_of}
use Rattle.profile.specs.Tags.{known, place, with, tags_after, tags_of}
use Rattle.profile.specs.Check.{meets, depth_after, solid_after, check, reply_to}
use Rattle.judge.specs.Judge.{MARKUP, judge_reply}
use Rattle.reader.specs.Read.{fits}
use Rattle.skim.specs.Skim.{until, skim_comment, tag_kind, skim_tag, skim_of}
use Rattle.fnv.specs.Fnv.{hash_step, hash_from, hash_of}
use Rattle.probing.specs.Around.{turn, reached, around}
use Rattle.probing.specs.Table.{holds, passes, home, slot_of, found, put, insert, fill}
use Rattle.words.specs.Runs.{word_byte, lower}
use Rattle.words.specs.Reading.{gap, word_from, word_at}
use Rattle.words.specs.Scan.{past_markup, skips_markup, past_other, skips_other, past, skips, starts, scan, mentions_in}
use Rattle.words.specs.Stands.{words_on, stands}
use Rattle.dictionary.specs.Slots.{table_of}
use Rattle.query.specs.Query.{query, asked, rises, query_ok}
use Rattle.plan.specs.Lists.{word_table, list_for, lists_to}
use Rattle.plan.specs.Plan.{enough, plan_reply, slots_after}
use Rattle.build.specs.Build.{Lent, lent, ends_for, counts_for, build_reply}
use Rattle.build.proofs.Replying.{after}

-- ---- calls
pub record Call : Type 0 where
  pub text : String
  pub words : String
  pub ends : List ℕ
  pub lent : Lent
  pub reply : Reply
  pub leaves : Lent

abbrev nines : ℕ → List ℕ
nines n = replicate n 9

abbrev pub sizes : ℕ → ℕ → ℕ → ℕ → ℕ → ℕ → ℕ → ℕ → ℕ → Lent
sizes s p t f l e o c w = lent (nines s) (nines p) (nines t) (nines f) (nines l) (nines e) (nines o) (nines c) (nines w)

abbrev pub built : String → String → List ℕ → Lent → ℕ → List ℕ → List ℕ → List ℕ → List ℕ → List ℕ → List ℕ → List ℕ → List ℕ → List ℕ → Call
built x q z b n s p t f l e o c w = record { text = x; words = q; ends = z; lent = b; reply = totalled accepted n; leaves = lent s p t f l e o c w }

abbrev pub refuses : String → String → List ℕ → Lent → ℕ → ℕ → Call
refuses x q z b i k = record { text = x; words = q; ends = z; lent = b; reply = refused i k; leaves = b }

abbrev pub cramped : String → String → List ℕ → Lent → Call
cramped x q z b =
    record {
      text = x;
      words = q;
      ends = z;
      lent = b;
      reply = refused ROOM 0;
      leaves = lent (map (λ i. 0) b.slots) b.parents b.tags b.firsts b.lasts b.ends b.occurrences b.counts b.work;
    }

unfoldable pub table : List Call
table =
    -- no word, and no slot
    built "<_/>" "a" (1 ∷ []) (sizes 0 1 1 1 1 1 0 1 3)
    1 [] (0 ∷ []) (1 ∷ []) (0 ∷ []) (3 ∷ []) (0 ∷ []) [] (0 ∷ []) (0 ∷ 0 ∷ 0 ∷ []) ∷
    -- an element and its data
    built "<a>A a</a>" "a" (1 ∷ []) (sizes 1 2 2 2 2 1 2 2 6)
    2 (2 ∷ []) (0 ∷ 0 ∷ []) (1 ∷ 0 ∷ []) (0 ∷ 3 ∷ []) (9 ∷ 5 ∷ []) (2 ∷ []) (0 ∷ 1 ∷ []) (2 ∷ 1 ∷ []) (0 ∷ 0 ∷ 0 ∷ 0 ∷ 0 ∷ 0 ∷ []) ∷
    built "<a>A a</a>" "a" (1 ∷ []) (sizes 2 3 3 3 3 2 3 3 7)
    2 (2 ∷ 0 ∷ []) (0 ∷ 0 ∷ 9 ∷ []) (1 ∷ 0 ∷ 9 ∷ []) (0 ∷ 3 ∷ 9 ∷ []) (9 ∷ 5 ∷ 9 ∷ []) (2 ∷ 9 ∷ []) (0 ∷ 1 ∷ 9 ∷ []) (2 ∷ 1 ∷ 9 ∷ []) (0 ∷ 0 ∷ 0 ∷ 0 ∷ 0 ∷ 0 ∷ 9 ∷ []) ∷
    -- a comment parts no word, a reference is no word; entries behind stay
    built "<leg>no<!--x-->rth<b>North</b> &lt;</leg>" "NORTHlt" (5 ∷ 7 ∷ []) (sizes 4 6 6 6 6 3 3 11 16)
    5 (6 ∷ 20 ∷ 0 ∷ 2 ∷ []) (0 ∷ 0 ∷ 0 ∷ 2 ∷ 0 ∷ 9 ∷ []) (1 ∷ 0 ∷ 2 ∷ 0 ∷ 0 ∷ 9 ∷ []) (0 ∷ 5 ∷ 18 ∷ 21 ∷ 30 ∷ 9 ∷ []) (40 ∷ 17 ∷ 29 ∷ 25 ∷ 34 ∷ 9 ∷ []) (2 ∷ 2 ∷ 9 ∷ []) (1 ∷ 3 ∷ 9 ∷ []) (2 ∷ 1 ∷ 1 ∷ 1 ∷ 0 ∷ 0 ∷ 0 ∷ 0 ∷ 0 ∷ 0 ∷ 9 ∷ []) (0 ∷ 0 ∷ 0 ∷ 0 ∷ 0 ∷ 0 ∷ 0 ∷ 0 ∷ 0 ∷ 0 ∷ 0 ∷ 0 ∷ 0 ∷ 0 ∷ 0 ∷ 9 ∷ []) ∷
    -- names are words, end tags are not; a word asked for twice has its list twice
    built "<night-train><leg/>night</night-train>" "nighttrainNight" (5 ∷ 10 ∷ 15 ∷ []) (sizes 3 3 3 3 3 3 5 9 9)
    3 (2 ∷ 8 ∷ 15 ∷ []) (0 ∷ 0 ∷ 0 ∷ []) (1 ∷ 2 ∷ 0 ∷ []) (0 ∷ 13 ∷ 19 ∷ []) (37 ∷ 18 ∷ 23 ∷ []) (2 ∷ 3 ∷ 5 ∷ []) (0 ∷ 2 ∷ 0 ∷ 0 ∷ 2 ∷ []) (2 ∷ 0 ∷ 1 ∷ 1 ∷ 0 ∷ 0 ∷ 2 ∷ 0 ∷ 1 ∷ []) (0 ∷ 0 ∷ 0 ∷ 0 ∷ 0 ∷ 0 ∷ 0 ∷ 0 ∷ 0 ∷ []) ∷
    -- two words with one hash
    built "<_>liquid<_>costarring</_></_>" "costarringliquid" (10 ∷ 16 ∷ []) (sizes 2 4 4 4 4 2 2 8 12)
    4 (13 ∷ 4 ∷ []) (0 ∷ 0 ∷ 0 ∷ 2 ∷ []) (1 ∷ 0 ∷ 1 ∷ 0 ∷ []) (0 ∷ 3 ∷ 9 ∷ 12 ∷ []) (29 ∷ 8 ∷ 25 ∷ 21 ∷ []) (1 ∷ 2 ∷ []) (3 ∷ 1 ∷ []) (1 ∷ 0 ∷ 1 ∷ 1 ∷ 1 ∷ 1 ∷ 0 ∷ 0 ∷ []) (0 ∷ 0 ∷ 0 ∷ 0 ∷ 0 ∷ 0 ∷ 0 ∷ 0 ∷ 0 ∷ 0 ∷ 0 ∷ 0 ∷ []) ∷
    -- each slice one entry short
    cramped "<night-train><leg/>night</night-train>" "nightleg" (5 ∷ 8 ∷ []) (sizes 2 3 3 3 3 2 3 6 9) ∷
    cramped "<night-train><leg/>night</night-train>" "nightleg" (5 ∷ 8 ∷ []) (sizes 3 2 3 3 3 2 3 6 9) ∷
    cramped "<night-train><leg/>night</night-train>" "nightleg" (5 ∷ 8 ∷ []) (sizes 3 3 2 3 3 2 3 6 9) ∷
    cramped "<night-train><leg/>night</night-train>" "nightleg" (5 ∷ 8 ∷ []) (sizes 3 3 3 2 3 2 3 6 9) ∷
    cramped "<night-train><leg/>night</night-train>" "nightleg" (5 ∷ 8 ∷ []) (sizes 3 3 3 3 2 2 3 6 9) ∷
    cramped "<night-train><leg/>night</night-train>" "nightleg" (5 ∷ 8 ∷ []) (sizes 3 3 3 3 3 1 3 6 9) ∷
    cramped "<night-train><leg/>night</night-train>" "nightleg" (5 ∷ 8 ∷ []) (sizes 3 3 3 3 3 2 2 6 9) ∷
    cramped "<night-train><leg/>night</night-train>" "nightleg" (5 ∷ 8 ∷ []) (sizes 3 3 3 3 3 2 3 5 9) ∷
    cramped "<night-train><leg/>night</night-train>" "nightleg" (5 ∷ 8 ∷ []) (sizes 3 3 3 3 3 2 3 6 8) ∷
    -- other refusals touch nothing: a query that is none, and MARKUP at the byte; in this order
    refuses "<a/>" "a-" (2 ∷ []) (sizes 2 1 1 1 1 1 1 1 3) SIZE 0 ∷
    refuses "<a/>" "" [] (sizes 2 1 1 1 1 1 1 1 3) SIZE 0 ∷
    refuses "<a>a b</c>" "a" (2 ∷ []) (sizes 0 0 0 0 0 0 0 0 0) SIZE 0 ∷
    refuses "<a>a b</c>" "a" (1 ∷ []) (sizes 2 2 2 2 2 1 2 2 6) MARKUP 8 ∷
    refuses "<a>a b</c>" "a" (1 ∷ []) (sizes 0 0 0 0 0 0 0 0 0) MARKUP 8 ∷
    refuses "" "a" (1 ∷ []) (sizes 1 0 0 0 0 0 0 0 0) MARKUP 0 ∷
    []

abbrev replies : Call → Reply
replies c = build_reply (bytes_of c.text) (query (bytes_of c.words) c.ends) c.lent

pub record Outcome : Type 0 where
  pub reply : Reply
  pub leaves : Lent

abbrev outcome : Call → Outcome
outcome c = record { reply = replies c; leaves = after (bytes_of c.text) (query (bytes_of c.words) c.ends) c.lent (replies c) }

pub calls : map outcome table ≡ map (λ c. record { reply = c.reply; leaves = c.leaves }) table
unfolding table bytes_of first_fail same_list starts_with white span other until skim_comment tag_kind skim_tag skim_of hash_step hash_from hash_of turn reached around holds passes home slot_of found put insert fill word_byte lower gap word_from word_at past_markup skips_markup past_other skips_other past skips starts scan mentions_in table_of char name_start name_char data_char run_byte run_next step_between step_angle step_tag step_comment step_ampersand step_ampersand_a step end_at note read tree_of accepting meets depth_after solid_after check reply_to known place with tags_after tags_of every_below tabulate gather listed every_of some_of tally zeroed over climb line under start word_list count_under kept_or fits judge_reply words_on stands asked rises query_ok word_table list_for lists_to ends_for counts_for enough plan_reply slots_after
calls = refl
