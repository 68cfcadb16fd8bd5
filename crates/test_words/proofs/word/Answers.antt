-- `test_words::word` meets its contract. Assumes nothing.
use Rattle.test_words.proofs.Reading.{word-past}
use Rattle.test_words.proofs.word.Goals as goal

pub returns-then-bytes-i : goal.returns-then-bytes-i
returns-then-bytes-i c =
    word-past c.args.bytes.now _ c.if-bytes-i.true
