use Rattle.std.proofs.Common.{◌≡◌, ◌-◌, rules, drop, length, sym, ap, arith}
use Rattle.sql_reader_tokens.proofs.LeavesLemmas.{token_further, token_stands}
use Rattle.sql_reader_tokens.proofs.PushLemmas.{read_none, read_more, stand_none, stand_more}
use Rattle.sql_reader_tokens.proofs.reading.read_tokens.Goals as goal
use Rattle.sql_reader_tokens.specs.Content.{lexeme_of}
use Rattle.sql_reader_tokens.specs.Tokens.{between}

pub loop-rest-init : goal.loop-rest-init
loop-rest-init c = record {
  is_text = c.utf8.text;
  within = omega arith;
  read = read_none c.args.grammar (length c.args.text.now) c.args.text.now c.new-tokens.result.items c.new-tokens.ensures.items;
  tail = ap (λ n. drop n c.args.text.now) (let e : 0 ≡ length c.args.text.now - length c.args.text.now = omega arith in e);
  stand = stand_none c.args.text.now c.new-tokens.result.items c.new-tokens.ensures.items;
}

pub loop-rest-preserved : goal.loop-rest-preserved
loop-rest-preserved c = record {
  is_text = search rules;
  within = omega (arith, c.in-Some-placed_token.ensures.shorter);
  read = read_more c.args.grammar (length c.args.text.now) c.args.text.now c.loop-rest.rest.now c.in-Some-placed_token.after.now c.loop-rest.tokens.items c.push.new.self.items c.in-Some-placed_token.token
      c.in_ok-push.ensures.items c.loop-rest.invariant.read (sym c.in-Some-placed_token.ensures.found) c.in-Some-placed_token.ensures.placed;
  tail = token_further c.args.grammar c.args.text.now c.loop-rest.rest.now c.in-Some-placed_token.after.now (lexeme_of c.in-Some-placed_token.token.kind)
      c.loop-rest.invariant.within c.loop-rest.invariant.tail (sym c.in-Some-placed_token.ensures.found);
  stand = stand_more c.args.text.now c.loop-rest.tokens.items c.push.new.self.items c.in-Some-placed_token.token
      (between (length c.args.text.now) c.loop-rest.rest.now (lexeme_of c.in-Some-placed_token.token.kind) c.in-Some-placed_token.after.now)
      c.in_ok-push.ensures.items c.loop-rest.invariant.stand c.in-Some-placed_token.ensures.placed
      (token_stands c.args.grammar c.args.text.now c.loop-rest.rest.now c.in-Some-placed_token.after.now (lexeme_of c.in-Some-placed_token.token.kind)
      (search rules) (search rules) c.loop-rest.invariant.within c.loop-rest.invariant.tail (sym c.in-Some-placed_token.ensures.found));
}
