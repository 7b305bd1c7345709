-- What closes a need of a contract that goes by tests.
use borrow.Author.Needs.{needs}
use borrow.Author.Tests.{lt-ltb, le-ltb, le-leb, lt-leb, eq-eqb, ne-eqb}

pub ruleset tests = (needs, lt-ltb, le-ltb, le-leb, lt-leb, eq-eqb, ne-eqb)
