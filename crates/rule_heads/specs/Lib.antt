pub mod RuleOf
pub mod Answer
