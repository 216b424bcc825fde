-- `text::Writer::put_number` ends: each number that it passes to itself is smaller.
use Rattle.text.proofs.Writer+u8.+put_number.Given as goal

abbrev pub decreases-put_number : goal.decreases-put_number
decreases-put_number l = l.x
