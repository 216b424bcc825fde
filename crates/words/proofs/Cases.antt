-- All bytes, fifty texts with their words, ten next words, and five documents by their syntax trees: a table and a theorem for each. The values are worked out by hand from
-- 02's Q-5 and Q-2, and not with the definitions.
--   folds, lowers   what becomes of each of the 256 bytes;  characters: for what each reference stands
--   at v i e w      == the word w, in lower case, stands at the node v: its first byte at the place i, and its last letter or digit before the place e
--   of s l          == in the text s the words l stand, in this order
--   texts           the theorem: each text is of the profile
--   words           the theorem: the pass finds each of the words at its node and place, and reads it there, to its end
--   next s i g b r  == from the place i of the text s on, in a tag or not (g), with the data making a node or not (b), r is the next word: `here`, with its place, its flags and
--                      how many nodes on it is, or `nowhere`
--   nexts           the theorem: the pass finds each of these
--   sample s d l m  == the document d has the bytes s, at its nodes the words l, and the mentions m
--   documents       the theorem: so it is for each sample
-- Assumes nothing.
use Prim.Native.Nat.{ℕ, ◌+◌}
use Prim.Native.String.{String}
use mathlib.Core.Path.{◌≡◌, refl}
use mathlib.Core.List.{List, [], ◌∷◌, ◌++◌, map}
use mathlib.Core.Bool.{Bool, true, false}
use mathlib.Core.Option.{none}
use lib.ListN.{replicate}
use Rattle.seq.specs.Below.{tabulate}
use Rattle.seq.specs.Lists.{every_of}
use Rattle.profile.specs.Bytes.{char, white, name_start, name_char, data_char, starts_with, contains, is_spaces, is_s, is_name, is_char_data, is_comment}
use Rattle.profile.specs.Spans.{span, other}
use Rattle.profile.specs.Grammar.{Spaces, Name, CharData, Comment, Misc, remark, blank, lt, gt, amp, apos, quot, Element, empty_tag, tags, end, element, reference, comment, Document, entity_name, reference_then, comment_then, end_tag_then, element_then, items_then, miscs_then, text}
use Rattle.profile.specs.Machine.{run_byte, run_next, step_between, step_angle, step_tag, step_comment, step_ampersand, step_ampersand_a, step, run, accepting, reach, markup}
use Rattle.profile.proofs.Cases.{bytes_of}
use Rattle.skim.specs.Skim.{until, skim_comment, tag_kind, skim_tag, skim_of}
use Rattle.words.specs.Runs.{Word, word_byte, lower, folded, closed, runs, words_of}
use Rattle.words.specs.Words.{entity_char, data_words, element_words, items_words, document_words}
use Rattle.words.specs.Places.{spots, closed_at, runs_at, placed_of, data_placed, element_placed, items_placed, document_placed, Mention, mention, mentioned, mentions_of}
use Rattle.words.specs.Reading.{gap, word_from, end_from, word_at, end_at}
use Rattle.words.specs.Scan.{ahead, past_markup, skips_markup, past_other, skips_other, past, skips, starts, Seen, scan, seek, mentions_in, seek_in}

-- ---- bytes
-- The digits, the capital letters and the small ones begin at 48, 65 and 97.
pub folds : tabulate 256 folded ≡
    replicate 48 0 ++ (bytes_of "0123456789" ++ (replicate 7 0 ++
    (bytes_of "abcdefghijklmnopqrstuvwxyz" ++ (replicate 6 0 ++ (bytes_of "abcdefghijklmnopqrstuvwxyz" ++ replicate 133 0)))))
unfolding tabulate bytes_of word_byte lower folded
folds = refl

pub lowers : tabulate 256 lower ≡ tabulate 65 (λ x. x) ++ (bytes_of "abcdefghijklmnopqrstuvwxyz" ++ tabulate 165 (λ x. 91 + x))
unfolding tabulate bytes_of lower
lowers = refl

pub characters : map entity_char (lt ∷ gt ∷ amp ∷ apos ∷ quot ∷ []) ≡ bytes_of "<>&'\""
unfolding bytes_of entity_char
characters = refl

-- ---- texts
pub record Found : Type 0 where
  pub node : ℕ
  pub place : ℕ
  pub end : ℕ
  pub word : Word

abbrev pub at : ℕ → ℕ → ℕ → String → Found
at v i e w = record { node = v; place = i; end = e; word = bytes_of w }

pub record Case : Type 0 where
  pub text : String
  pub words : List Found

abbrev pub of : String → List Found → Case
of s l = record { text = s; words = l }

unfoldable pub table : List Case
table =
    -- names: they part at hyphens, dots, colons and underscores; an end tag is no mention
    of "<a/>" (at 0 1 2 "a" ∷ []) ∷
    of "<a></a>" (at 0 1 2 "a" ∷ []) ∷
    of "<_/>" [] ∷
    of "<_>x</_>" (at 1 3 4 "x" ∷ []) ∷
    of "<_:a.-b></_:a.-b>" (at 0 3 4 "a" ∷ at 0 6 7 "b" ∷ []) ∷
    of "<Leg-no.2:b_C9-/>" (at 0 1 4 "leg" ∷ at 0 5 7 "no" ∷ at 0 8 9 "2" ∷ at 0 10 11 "b" ∷ at 0 12 14 "c9" ∷ []) ∷
    of "<ab >x</ab \n>" (at 0 1 3 "ab" ∷ at 1 5 6 "x" ∷ []) ∷
    -- data: longest runs of letters and digits, in lower case
    of "<train>north</train>" (at 0 1 6 "train" ∷ at 1 7 12 "north" ∷ []) ∷
    of "<t> x </t>" (at 0 1 2 "t" ∷ at 1 4 5 "x" ∷ []) ∷
    of "<A>NoRTh Z90z</A>" (at 0 1 2 "a" ∷ at 1 3 8 "north" ∷ at 1 9 13 "z90z" ∷ []) ∷
    of "<x1>007 7x</x1>" (at 0 1 3 "x1" ∷ at 1 4 7 "007" ∷ at 1 8 10 "7x" ∷ []) ∷
    of "<t>a_b-c</t>" (at 0 1 2 "t" ∷ at 1 3 4 "a" ∷ at 1 5 6 "b" ∷ at 1 7 8 "c" ∷ []) ∷
    of "<t>a b\tc\rd\ne</t>" (at 0 1 2 "t" ∷ at 1 3 4 "a" ∷ at 1 5 6 "b" ∷ at 1 7 8 "c" ∷ at 1 9 10 "d" ∷ at 1 11 12 "e" ∷ []) ∷
    of "<a>/0:@A[`b{9:z{Z[</a>" (at 0 1 2 "a" ∷ at 1 4 5 "0" ∷ at 1 7 8 "a" ∷ at 1 10 11 "b" ∷ at 1 12 13 "9" ∷ at 1 14 15 "z" ∷ at 1 16 17 "z" ∷ []) ∷
    of "<t>a>b;c]]d<u/></t>" (at 0 1 2 "t" ∷ at 1 3 4 "a" ∷ at 1 5 6 "b" ∷ at 1 7 8 "c" ∷ at 1 10 11 "d" ∷ at 2 12 13 "u" ∷ []) ∷
    of "<a>A a<a/>aA</a>" (at 0 1 2 "a" ∷ at 1 3 4 "a" ∷ at 1 5 6 "a" ∷ at 2 7 8 "a" ∷ at 3 10 12 "aa" ∷ []) ∷
    -- comments: what stands on both sides of one is joined, and nothing in one is a word
    of "<t>no<!--x-->rth</t>" (at 0 1 2 "t" ∷ at 1 3 16 "north" ∷ []) ∷
    of "<t>n<!--a--><!----><!--b c-->o<!--d-->r</t>" (at 0 1 2 "t" ∷ at 1 3 39 "nor" ∷ []) ∷
    of "<t>a<!-- - -x -->b</t>" (at 0 1 2 "t" ∷ at 1 3 18 "ab" ∷ []) ∷
    of "<t>a<!--->-->b</t>" (at 0 1 2 "t" ∷ at 1 3 14 "ab" ∷ []) ∷
    of "<t>a<!--<b>x</b>&lt;-->c</t>" (at 0 1 2 "t" ∷ at 1 3 24 "ac" ∷ []) ∷
    of "<t>ab<!--c-->d</t>" (at 0 1 2 "t" ∷ at 1 3 14 "abd" ∷ []) ∷
    of "<t>ab<!--c--> d</t>" (at 0 1 2 "t" ∷ at 1 3 5 "ab" ∷ at 1 14 15 "d" ∷ []) ∷
    of "<t>ab <!--c-->d</t>" (at 0 1 2 "t" ∷ at 1 3 5 "ab" ∷ at 1 14 15 "d" ∷ []) ∷
    of "<t>ab<!--c--><u/>d</t>" (at 0 1 2 "t" ∷ at 1 3 5 "ab" ∷ at 2 14 15 "u" ∷ at 3 17 18 "d" ∷ []) ∷
    of "<t>ab<!--c--><!--d--></t>" (at 0 1 2 "t" ∷ at 1 3 5 "ab" ∷ []) ∷
    of "<t><!--c-->ab</t>" (at 0 1 2 "t" ∷ at 1 11 13 "ab" ∷ []) ∷
    of "<t><u/><!--c--><v/></t>" (at 0 1 2 "t" ∷ at 1 4 5 "u" ∷ at 2 16 17 "v" ∷ []) ∷
    of "<t>a<u/><!--c-->b</t>" (at 0 1 2 "t" ∷ at 1 3 4 "a" ∷ at 2 5 6 "u" ∷ at 3 16 17 "b" ∷ []) ∷
    -- references: each parts words, and its letters are none
    of "<t>a&lt;b</t>" (at 0 1 2 "t" ∷ at 1 3 4 "a" ∷ at 1 8 9 "b" ∷ []) ∷
    of "<t>a&gt;b</t>" (at 0 1 2 "t" ∷ at 1 3 4 "a" ∷ at 1 8 9 "b" ∷ []) ∷
    of "<t>a&amp;b</t>" (at 0 1 2 "t" ∷ at 1 3 4 "a" ∷ at 1 9 10 "b" ∷ []) ∷
    of "<t>a&apos;b</t>" (at 0 1 2 "t" ∷ at 1 3 4 "a" ∷ at 1 10 11 "b" ∷ []) ∷
    of "<t>a&quot;b</t>" (at 0 1 2 "t" ∷ at 1 3 4 "a" ∷ at 1 10 11 "b" ∷ []) ∷
    of "<t>a&lt;<!--c-->b</t>" (at 0 1 2 "t" ∷ at 1 3 4 "a" ∷ at 1 16 17 "b" ∷ []) ∷
    of "<t>a<!--c-->&lt;b</t>" (at 0 1 2 "t" ∷ at 1 3 4 "a" ∷ at 1 16 17 "b" ∷ []) ∷
    of "<t>a<!--c-->&amp;<!--d-->b</t>" (at 0 1 2 "t" ∷ at 1 3 4 "a" ∷ at 1 25 26 "b" ∷ []) ∷
    of "<t>&lt;&gt;<u/></t>" (at 0 1 2 "t" ∷ at 2 12 13 "u" ∷ []) ∷
    -- nodes: white space alone makes none, and another character does, with words or without
    of "<t> \n\t\r<u/> <v/></t>" (at 0 1 2 "t" ∷ at 1 8 9 "u" ∷ at 2 13 14 "v" ∷ []) ∷
    of "<t> <!--x--> <u/></t>" (at 0 1 2 "t" ∷ at 1 14 15 "u" ∷ []) ∷
    of "<t>-<!--x--> <u/></t>" (at 0 1 2 "t" ∷ at 2 14 15 "u" ∷ []) ∷
    of "<t> - <u/></t>" (at 0 1 2 "t" ∷ at 2 7 8 "u" ∷ []) ∷
    of "<t>\u{7f}<u/></t>" (at 0 1 2 "t" ∷ at 2 5 6 "u" ∷ []) ∷
    of "<t><u> - </u><v/></t>" (at 0 1 2 "t" ∷ at 1 4 5 "u" ∷ at 3 14 15 "v" ∷ []) ∷
    of "<t>a<u/>b<v/>c</t>" (at 0 1 2 "t" ∷ at 1 3 4 "a" ∷ at 2 5 6 "u" ∷ at 3 8 9 "b" ∷ at 4 10 11 "v" ∷ at 5 13 14 "c" ∷ []) ∷
    of "<a>p<b>q</b>r<c/></a>" (at 0 1 2 "a" ∷ at 1 3 4 "p" ∷ at 2 5 6 "b" ∷ at 3 7 8 "q" ∷ at 4 12 13 "r" ∷ at 5 14 15 "c" ∷ []) ∷
    of "<a><b><c>x</c></b></a>" (at 0 1 2 "a" ∷ at 1 4 5 "b" ∷ at 2 7 8 "c" ∷ at 3 9 10 "x" ∷ []) ∷
    of "<t><u></u><v></v></t>" (at 0 1 2 "t" ∷ at 1 4 5 "u" ∷ at 2 11 12 "v" ∷ []) ∷
    of "<t><u>x</u ><v\t/>y</t\n>" (at 0 1 2 "t" ∷ at 1 4 5 "u" ∷ at 2 6 7 "x" ∷ at 3 13 14 "v" ∷ at 4 17 18 "y" ∷ []) ∷
    of " <!--pre--> <t/>\n<!--post x-->" (at 0 13 14 "t" ∷ []) ∷
    []

pub texts : map (λ c. markup (bytes_of c.text)) table ≡ map (λ c. none) table
unfolding table bytes_of char white name_start name_char data_char run_byte run_next step_between step_angle step_tag step_comment step_ampersand step_ampersand_a step run accepting reach markup
texts = refl

abbrev found : List ℕ → Mention → Found
found T m = record { node = m.node; place = m.place; end = end_at T m.place; word = word_at T m.place }

pub words : map (λ c. map (found (bytes_of c.text)) (mentions_in (bytes_of c.text))) table ≡ map (λ c. c.words) table
unfolding table bytes_of starts_with white span other until skim_comment tag_kind skim_tag skim_of word_byte lower gap word_from end_from word_at end_at past_markup skips_markup past_other skips_other past skips starts scan mentions_in
words = refl

-- ---- next words
pub record Next : Type 0 where
  pub text : String
  pub from : ℕ
  pub tag : Bool
  pub solid : Bool
  pub gives : Seen

abbrev pub next : String → ℕ → Bool → Bool → Seen → Next
next s i g b r = record { text = s; from = i; tag = g; solid = b; gives = r }

abbrev pub here : ℕ → Bool → Bool → ℕ → Seen
here i g b v = record { found = true; place = i; tag = g; solid = b; node = v }

abbrev pub nowhere : Seen
nowhere = record { found = false; place = 0; tag = false; solid = false; node = 0 }

unfoldable pub calls : List Next
calls =
    next "<a-b>c</a-b>" 0 false false (here 1 true false 0) ∷
    next "<a-b>c</a-b>" 2 true false (here 3 true false 0) ∷
    next "<a-b>c</a-b>" 4 true false (here 5 false true 1) ∷
    next "<a-b>c</a-b>" 6 false true nowhere ∷
    next "<a-b>c</a-b>" 99 false true nowhere ∷
    next "<t> - <u/></t>" 3 false false (here 7 true false 1) ∷
    next "<t> <u/></t>" 3 false false (here 5 true false 0) ∷
    next "<t>a<u/></t>" 4 false true (here 5 true false 1) ∷
    next "<t>a &lt; b</t>" 4 false true (here 10 false true 0) ∷
    next "<t>a<!--b--> c</t>" 4 false true (here 13 false true 0) ∷
    []

pub nexts : map (λ c. seek_in (bytes_of c.text) c.from (ahead c.tag false c.solid 0)) calls ≡ map (λ c. c.gives) calls
unfolding calls bytes_of starts_with white span other until skim_comment tag_kind skim_tag skim_of word_byte past_markup skips_markup past_other skips_other past skips starts seek seek_in
nexts = refl

-- ---- documents
-- The parts of a document, each with the proof that it keeps its production.
abbrev name : (s : String) → is_name (bytes_of s) ≡ true → Name
name s h = record { bytes = bytes_of s; keeps = h }

abbrev datum : (s : String) → is_char_data (bytes_of s) ≡ true → CharData
datum s h = record { bytes = bytes_of s; keeps = h }

abbrev body : (s : String) → is_comment (bytes_of s) ≡ true → Comment
body s h = record { bytes = bytes_of s; keeps = h }

abbrev spaces : (s : String) → is_spaces (bytes_of s) ≡ true → Spaces
spaces s h = record { bytes = bytes_of s; keeps = h }

abbrev space : (s : String) → is_s (bytes_of s) ≡ true → Misc
space s h = blank (record { bytes = bytes_of s; keeps = h })

abbrev alone : Element → Document
alone e = record { prolog = []; root = e; epilog = [] }

-- What the definitions give.
pub record Given : Type 0 where
  pub bytes : List ℕ
  pub words : List (List Word)
  pub mentions : List Mention

pub record Sample : Type 0 where
  pub document : Document
  pub given : Given

abbrev pub sample : String → Document → List (List String) → List Mention → Sample
sample s d l m = record { document = d; given = record { bytes = bytes_of s; words = map (map bytes_of) l; mentions = m } }

unfoldable pub samples : List Sample
unfolding bytes_of every_of char white name_start name_char data_char starts_with contains is_spaces is_s is_name is_char_data is_comment
samples =
    sample "<_/>" (alone (empty_tag (name "_" refl) (spaces "" refl))) ([] ∷ []) [] ∷
    sample "<t>no<!--x-->rth</t>"
    (alone (tags (name "t" refl) (spaces "" refl) (datum "no" refl) (comment (body "x" refl) (datum "rth" refl) end) (spaces "" refl)))
    (("t" ∷ []) ∷ ("north" ∷ []) ∷ [])
    (mention 0 1 ∷ mention 1 3 ∷ []) ∷
    sample "<T-1>A&lt;B&gt;c&amp;d&apos;e&quot;f</T-1>"
    (alone (tags (name "T-1" refl) (spaces "" refl) (datum "A" refl)
    (reference lt (datum "B" refl) (reference gt (datum "c" refl) (reference amp (datum "d" refl) (reference apos (datum "e" refl) (reference quot (datum "f" refl) end)))))
    (spaces "" refl)))
    (("t" ∷ "1" ∷ []) ∷ ("a" ∷ "b" ∷ "c" ∷ "d" ∷ "e" ∷ "f" ∷ []) ∷ [])
    (mention 0 1 ∷ mention 0 3 ∷ mention 1 5 ∷ mention 1 10 ∷ mention 1 15 ∷ mention 1 21 ∷ mention 1 28 ∷ mention 1 35 ∷ []) ∷
    sample "<a> <b/> - <c >x y</c > <!--q--> z</a>"
    (alone (tags (name "a" refl) (spaces "" refl) (datum " " refl)
    (element (empty_tag (name "b" refl) (spaces "" refl)) (datum " - " refl)
    (element (tags (name "c" refl) (spaces " " refl) (datum "x y" refl) end (spaces " " refl)) (datum " " refl)
    (comment (body "q" refl) (datum " z" refl) end)))
    (spaces "" refl)))
    (("a" ∷ []) ∷ ("b" ∷ []) ∷ [] ∷ ("c" ∷ []) ∷ ("x" ∷ "y" ∷ []) ∷ ("z" ∷ []) ∷ [])
    (mention 0 1 ∷ mention 1 5 ∷ mention 3 12 ∷ mention 4 15 ∷ mention 4 17 ∷ mention 5 33 ∷ []) ∷
    sample " <!--p q--><r.s>t<!--u--></r.s>\n<!--v-->"
    (record {
      prolog = space " " refl ∷ remark (body "p q" refl) ∷ [];
      root = tags (name "r.s" refl) (spaces "" refl) (datum "t" refl) (comment (body "u" refl) (datum "" refl) end) (spaces "" refl);
      epilog = space "\n" refl ∷ remark (body "v" refl) ∷ [];
    })
    (("r" ∷ "s" ∷ []) ∷ ("t" ∷ []) ∷ [])
    (mention 0 12 ∷ mention 0 14 ∷ mention 1 16 ∷ []) ∷
    []

abbrev gives : Document → Given
gives d = record { bytes = text d; words = document_words d; mentions = mentions_of d }

pub documents : map (λ c. gives c.document) samples ≡ map (λ c. c.given) samples
unfolding samples bytes_of every_of white entity_name reference_then comment_then end_tag_then element_then items_then miscs_then text word_byte lower closed runs words_of entity_char data_words element_words items_words document_words spots closed_at runs_at placed_of data_placed element_placed items_placed document_placed mentioned mentions_of
documents = refl
