use Rattle.std.proofs.Common.{Some, lit<}
use lib.Utf8.{encode}
use Rattle.std.proofs.lemmas.Str.Pattern.{strip_suffix_char}
use Rattle.script.proofs.Cutting.{no_kind, no_end, no_comma, in_parts}
use Rattle.script.proofs.words.WordParts.parse.Goals as goal

pub returns-in_err-kind : goal.returns-in_err-kind
returns-in_err-kind c =
    record { parts = rw c.from_residual.ensures (no_kind _ c.in_err-kind.ensures.cases) }

pub returns-in_err-strip_suffix : goal.returns-in_err-strip_suffix
unfolding lib.Utf8.encode
returns-in_err-strip_suffix c =
    record
    { parts = rw c.from_residual-in_err-strip_suffix.ensures (no_end _ (c.in_ok-kind.kind, c.in_ok-kind.rest) c.in_ok-kind.ensures.cases c.in_err-strip_suffix.ensures.cases) }

pub returns-in_err-first : goal.returns-in_err-first
returns-in_err-first c =
    let end = strip_suffix_char 41 c.in_ok-kind.rest.now (Some c.in_ok-strip_suffix.field-0) c.in_ok-strip_suffix.ensures.cases (lit< tt) in
    record
    { parts = rw c.from_residual-in_err-first.ensures (no_comma c.args.word.now c.in_ok-strip_suffix.field-0.now (c.in_ok-kind.kind, c.in_ok-kind.rest) c.in_ok-kind.ensures.cases end c.in_err-first.ensures.cases) }

pub returns : goal.returns
returns c =
    let end = strip_suffix_char 41 c.in_ok-kind.rest.now (Some c.in_ok-strip_suffix.field-0) c.in_ok-strip_suffix.ensures.cases (lit< tt) in
    record
    { parts = in_parts c.args.word.now c.in_ok-strip_suffix.field-0.now (c.in_ok-kind.kind, c.in_ok-kind.rest) (c.in_ok-first.first, c.in_ok-first.second) c.in_ok-kind.ensures.cases end c.in_ok-first.ensures.cases }
